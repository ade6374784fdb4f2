use Rattle.std.proofs.Common.{[], refl, codes}
use Rattle.std.proofs.lemmas.Result.{IfOk-weaker}
use Rattle.vme_command_line.specs.Commands.{files, leaf}
use Rattle.vme_command_line.proofs.commands.command_on_traces.Goals as goal

pub returns : goal.returns
returns c = IfOk-weaker c.taking.result _ _
    (λ made adds. adds (leaf c.args.name.now []) (files (codes "TRACE")) c.command.ensures c.trace_files.ensures refl)
    c.taking.ensures
