use Rattle.std.proofs.Common.{arith}
use Rattle.vme_command_line.proofs.NamedDrivers.{not_c}
use Rattle.vme_command_line.proofs.NamedBoards.{no_number, no_slot}
use Rattle.vme_command_line.proofs.aims.driver_in.Goals as goal

pub returns-in_err-slot : goal.returns-in_err-slot
returns-in_err-slot c =
    rw c.from_residual.ensures (no_number c.args.text.now (not_c c.args.text.now c.if-eq.ensures) c.in_err-slot.ensures)

pub returns-then-slot-lt1 : goal.returns-then-slot-lt1
returns-then-slot-lt1 c =
    no_slot c.args.text.now c.in_ok-slot.slot (not_c c.args.text.now c.if-eq.ensures) c.in_ok-slot.ensures
    (λ low high. absurd (omega arith))

pub returns : goal.returns
returns c = (c.if-slot-lt1.false, c.if-slot-gt21.false, c.in_ok-slot.ensures)
