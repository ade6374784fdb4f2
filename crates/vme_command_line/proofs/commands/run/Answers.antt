use Rattle.std.proofs.Common.{[], ◌∷◌, ap, refl, codes}
use Rattle.std.proofs.lemmas.Result.{IfOk-weaker}
use Rattle.clap.specs.Words.{App}
use Rattle.vme_command_line.specs.Commands.{edges, leaf, turns, version}
use Rattle.vme_command_line.proofs.commands.run.Goals as goal

pub returns : goal.returns
returns c =
    let with_edges = IfOk-weaker c.taking-command.result _ _
    (λ made adds. adds (leaf (codes "run") []) edges c.command-command.ensures c.edges_option.ensures refl) c.taking-command.ensures in
    let with_turns = IfOk-weaker c.taking-command-2.result _ _
    (λ made adds. adds (leaf (codes "run") (edges ∷ [])) turns with_edges c.turns_option.ensures refl) c.taking-command-2.ensures in
    IfOk-weaker c.taking.result _ _
    (λ made adds. ap (λ (a : App). a.top) (adds (leaf (codes "run") (edges ∷ turns ∷ [])) version with_turns c.version_option.ensures refl))
    c.taking.ensures
