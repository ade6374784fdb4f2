use Rattle.std.proofs.lemmas.Result.{IfOk-weaker}
use Rattle.vme_command_line.proofs.Building.{put}
use Rattle.vme_command_line.proofs.commands.offering.Goals as goal

pub returns : goal.returns
returns c = IfOk-weaker c.subcommand.result _ _
    (λ made adds a s was is plain. put c.in_ok-program.field-0 made c.in_ok-command.field-0 a s adds (rw c.in_ok-program.was at was) (rw c.in_ok-command.was at is) plain)
    c.subcommand.ensures
