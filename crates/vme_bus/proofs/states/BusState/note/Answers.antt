use Rattle.std.proofs.Common.{arith}
use Rattle.vme_wiring.proofs.AllowedBoards.{stands}
use Rattle.vme_wiring.proofs.LongerHistory.{standing}
use Rattle.vme_bus.proofs.states.BusState.note.Goals as goal

pub returns-else-slot-lt22 : goal.returns-else-slot-lt22
returns-else-slot-lt22 c version p h is allowed =
    let k = standing version p h c.in-Slot.slot c.args.edge allowed c.in-Slot.is in
    let near = (stands p c.in-Slot.slot k.row is.accepted k.found).near in
    absurd (omega arith)
