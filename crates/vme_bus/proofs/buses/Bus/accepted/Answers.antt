use Rattle.vme_histories.proofs.AcceptedOffers.{is_allowed, has_room}
use Rattle.vme_bus.proofs.buses.Bus.accepted.Goals as goal

pub returns-clause-room : goal.returns-clause-room
returns-clause-room c = has_room c.args.self.now c.args.edge c.requires

pub returns-clause-allowed : goal.returns-clause-allowed
returns-clause-allowed c = is_allowed c.args.self.now c.args.edge c.requires
