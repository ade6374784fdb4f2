use Rattle.std.proofs.lemmas.Result.{IfOk-weaker}
use Rattle.vme_command_line.proofs.Building.{added}
use Rattle.vme_command_line.proofs.commands.taking.Goals as goal

pub returns : goal.returns
returns c = IfOk-weaker c.arg.result _ _
    (λ made adds a r was is simple. added c.in_ok-command.field-0 made c.args.word a r adds (rw c.in_ok-command.was at was) is simple)
    c.arg.ensures
