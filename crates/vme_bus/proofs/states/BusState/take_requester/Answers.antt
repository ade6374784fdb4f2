use Rattle.vme_bus.proofs.Parts.{no_delivery, requester_delivers_not}
use Rattle.vme_bus.proofs.states.BusState.take_requester.Goals as goal

pub returns-clause-delivery : goal.returns-clause-delivery
returns-clause-delivery c version p h is = no_delivery p h c.args.edge (requester_delivers_not c.args.edge.wire c.requires)
