use Rattle.vme_bus.proofs.LongerHistory.{noted_by_controller}
use Rattle.vme_bus.proofs.states.BusState.move_controller.Goals as goal

pub returns : goal.returns
returns c version p h is driver allowed =
    noted_by_controller version p h c.args.self.now _ c.grants_after-self.result c.granted_after-self.result c.inputs_after-self.result c.low_after-self.result
    c.low_after-bus_clear.result c.low_after-self-2.result is c.args.edge driver allowed c.last_level_after-self.ensures c.grants_after-self.ensures
    c.granted_after-self.ensures (rw c.from.ensures at c.inputs_after-self.ensures) c.low_after-self.ensures c.low_after-bus_clear.ensures c.low_after-self-2.ensures
