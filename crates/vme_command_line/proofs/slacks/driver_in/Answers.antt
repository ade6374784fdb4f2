use Rattle.std.proofs.Common.{◌∙◌, ap, arith, sym}
use Rattle.vme_moments.specs.Moments.{number_of}
use Rattle.vme_command_line.proofs.NamedDrivers.{board_named, no_number, no_slot, not_c}
use Rattle.vme_command_line.proofs.slacks.driver_in.Goals as goal

pub returns-in_err-slot : goal.returns-in_err-slot
returns-in_err-slot c =
    rw c.from_residual.ensures
    (no_number c.args.name.now (not_c c.args.name.now c.if-eq.ensures) (sym (c.in_err-slot.ensures ∙ ap number_of c.as_bytes.ensures.value)))

pub returns-then-slot-lt1 : goal.returns-then-slot-lt1
returns-then-slot-lt1 c =
    no_slot c.args.name.now c.in_ok-slot.slot (not_c c.args.name.now c.if-eq.ensures) (sym (c.in_ok-slot.ensures ∙ ap number_of c.as_bytes.ensures.value))
    (λ low high. absurd (omega arith))

pub returns : goal.returns
returns c =
    board_named c.args.name.now c.in_ok-slot.slot (not_c c.args.name.now c.if-eq.ensures) (sym (c.in_ok-slot.ensures ∙ ap number_of c.as_bytes.ensures.value)) c.if-slot-lt1.false c.if-slot-gt21.false
