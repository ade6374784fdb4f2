use Rattle.vme_bus.proofs.Parts.{no_delivery, master_delivers_not}
use Rattle.vme_bus.proofs.states.BusState.take_master.Goals as goal

pub returns-clause-delivery : goal.returns-clause-delivery
returns-clause-delivery c version p h is = no_delivery p h c.args.edge (master_delivers_not c.args.edge.wire c.requires)
