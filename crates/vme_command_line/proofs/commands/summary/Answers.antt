use Rattle.std.proofs.Common.{[], ap, refl, codes}
use Rattle.std.proofs.lemmas.Result.{IfOk-weaker}
use Rattle.clap.specs.Words.{App}
use Rattle.vme_command_line.specs.Commands.{files, leaf}
use Rattle.vme_command_line.proofs.commands.summary.Goals as goal

pub returns : goal.returns
returns c = IfOk-weaker c.taking.result _ _
    (λ made adds. ap (λ (a : App). a.top) (adds (leaf (codes "summary") []) (files (codes "TRACE")) c.command-command.ensures c.trace_files.ensures refl))
    c.taking.ensures
