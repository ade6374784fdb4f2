use Rattle.std.proofs.Common.{[], ◌∷◌, ap, refl, codes}
use Rattle.std.proofs.lemmas.Result.{IfOk-weaker}
use Rattle.clap.specs.Words.{App}
use Rattle.vme_command_line.specs.Commands.{color, file, from, leaf, to}
use Rattle.vme_command_line.proofs.commands.show.Goals as goal

pub returns : goal.returns
returns c =
    let with_from = IfOk-weaker c.taking-command.result _ _
    (λ made adds. adds (leaf (codes "show") (file (codes "TRACE") ∷ [])) from c.command_on_trace-command.ensures c.from_option.ensures refl) c.taking-command.ensures in
    let with_to = IfOk-weaker c.taking-command-2.result _ _
    (λ made adds. adds (leaf (codes "show") (file (codes "TRACE") ∷ from ∷ [])) to with_from c.to_option.ensures refl) c.taking-command-2.ensures in
    IfOk-weaker c.taking.result _ _
    (λ made adds. ap (λ (a : App). a.top) (adds (leaf (codes "show") (file (codes "TRACE") ∷ from ∷ to ∷ [])) color with_to c.color_option.ensures refl))
    c.taking.ensures
