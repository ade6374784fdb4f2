use Rattle.vme_bus.proofs.OneSlot.{controllers_wire}
use Rattle.vme_bus.proofs.states.BusState.is_slot_low.Goals as goal

pub returns-in-Bg : goal.returns-in-Bg
returns-in-Bg c near version p h is = controllers_wire version p h c.args.slot c.args.wire is.legal c.in-Bg.is
