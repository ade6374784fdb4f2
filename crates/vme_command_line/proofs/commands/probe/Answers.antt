use Rattle.std.proofs.Common.{[], ◌∷◌, ap, refl, codes}
use Rattle.std.proofs.lemmas.Result.{IfOk-weaker}
use Rattle.clap.specs.Words.{App}
use Rattle.vme_command_line.specs.Commands.{file, leaf, skew}
use Rattle.vme_command_line.proofs.commands.probe.Goals as goal

pub returns : goal.returns
returns c =
    let with_capture = IfOk-weaker c.taking-command.result _ _
    (λ made adds. adds (leaf (codes "probe") []) (file (codes "CAPTURE")) c.command-command.ensures c.capture_file.ensures refl) c.taking-command.ensures in
    IfOk-weaker c.taking.result _ _
    (λ made adds. ap (λ (a : App). a.top) (adds (leaf (codes "probe") (file (codes "CAPTURE") ∷ [])) skew with_capture c.skew_option.ensures refl))
    c.taking.ensures
