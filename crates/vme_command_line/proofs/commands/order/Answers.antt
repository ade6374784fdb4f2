use Rattle.std.proofs.Common.{[], ◌∷◌, ap, refl, codes}
use Rattle.std.proofs.lemmas.Result.{IfOk-weaker}
use Rattle.clap.specs.Words.{App}
use Rattle.vme_command_line.specs.Commands.{file, leaf, places, progress, slack}
use Rattle.vme_command_line.proofs.commands.order.Goals as goal

pub returns : goal.returns
returns c =
    let with_moments = IfOk-weaker c.taking-command.result _ _
    (λ made adds. adds (leaf (codes "order") []) (file (codes "MOMENTS")) c.command-command.ensures c.moments_file.ensures refl) c.taking-command.ensures in
    let with_slack = IfOk-weaker c.taking-command-2.result _ _
    (λ made adds. adds (leaf (codes "order") (file (codes "MOMENTS") ∷ [])) slack with_moments c.slack_option.ensures refl) c.taking-command-2.ensures in
    let with_where = IfOk-weaker c.taking-command-3.result _ _
    (λ made adds. adds (leaf (codes "order") (file (codes "MOMENTS") ∷ slack ∷ [])) places with_slack c.where_option.ensures refl) c.taking-command-3.ensures in
    IfOk-weaker c.taking.result _ _
    (λ made adds. ap (λ (a : App). a.top) (adds (leaf (codes "order") (file (codes "MOMENTS") ∷ slack ∷ places ∷ [])) progress with_where c.progress_option.ensures refl))
    c.taking.ensures
