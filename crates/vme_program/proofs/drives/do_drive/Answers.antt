use Rattle.std.proofs.Common.{subst, sym}
use Rattle.std.specs.Io.KnownBytes.{Keeps}
use Rattle.vme_reading.specs.Outcomes.{Lent}
use Rattle.vme_drive.specs.Found.{found_answer}
use Rattle.vme_command_line.specs.declared.Choice.{Choice}
use Rattle.vme_program.specs.Done.{DoesDrive}
use Rattle.vme_program.proofs.Reaching.{sought_done}
use Rattle.vme_program.proofs.drives.do_drive.Goals as goal

pub returns-in-Sought : goal.returns-in-Sought
returns-in-Sought g c =
    let old = g.W.Write.contents c.args.out.now in
    let new = g.W.Write.contents c.drive_found-found.new.out in
    rw c.answer_of_seeds.ensures
    (subst (λ (choice : Choice). Lent c.args.text.now (Keeps old new) (DoesDrive c.args.edges c.args.version choice old new) (found_answer c.drive_found-found.result)) (sym c.in-Sought.is)
    (sought_done c.args.text.now c.args.edges c.in-Sought.first c.in-Sought.last c.in-Sought.goal c.args.version c.in-Sought.progress old new c.drive_found-found.result
    c.drive_found-found.ensures.outcome))
