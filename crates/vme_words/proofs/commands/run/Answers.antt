use Rattle.std.proofs.Common.{[], ◌∷◌, ap, refl, codes}
use Rattle.std.proofs.lemmas.Result.{IfOk-weaker}
use Rattle.clap.specs.Words.{App}
use Rattle.vme_words.specs.Commands.{edges, leaf, turns, version}
use Rattle.vme_words.proofs.Building.{added}
use Rattle.vme_words.proofs.commands.run.Goals as goal

pub returns : goal.returns
returns c =
    let with_edges = added c.in_ok-command.field-0 c.in_ok-arg.field-0 c.edges_option.result (leaf (codes "run") []) edges
    c.in_ok-arg.ensures c.in_ok-command.ensures c.edges_option.ensures refl in
    let with_turns = added c.in_ok-arg.field-0 c.in_ok-arg-2.field-0 c.turns_option.result (leaf (codes "run") (edges ∷ [])) turns
    c.in_ok-arg-2.ensures with_edges c.turns_option.ensures refl in
    IfOk-weaker c.arg-3.result _ _
    (λ made adds. ap (λ (a : App). a.top) (added c.in_ok-arg-2.field-0 made c.version_option.result (leaf (codes "run") (edges ∷ turns ∷ [])) version adds
    with_turns c.version_option.ensures refl))
    c.arg-3.ensures
