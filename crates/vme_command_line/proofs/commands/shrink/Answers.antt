use Rattle.std.proofs.Common.{[], ◌∷◌, ap, refl, codes}
use Rattle.std.proofs.lemmas.Result.{IfOk-weaker}
use Rattle.clap.specs.Words.{App}
use Rattle.vme_command_line.specs.Commands.{edge, file, leaf, progress}
use Rattle.vme_command_line.proofs.commands.shrink.Goals as goal

pub returns : goal.returns
returns c =
    let with_edge = IfOk-weaker c.taking-command.result _ _
    (λ made adds. adds (leaf (codes "shrink") (file (codes "TRACE") ∷ [])) edge c.command_on_trace-command.ensures c.edge_option.ensures refl) c.taking-command.ensures in
    IfOk-weaker c.taking.result _ _
    (λ made adds. ap (λ (a : App). a.top) (adds (leaf (codes "shrink") (file (codes "TRACE") ∷ edge ∷ [])) progress with_edge c.progress_option.ensures refl))
    c.taking.ensures
