use Rattle.vme_histories.proofs.AcceptedOffers.{is_allowed, has_room}
use Rattle.vme_backplane.proofs.WellFormed.{allowed_is_well_formed}
use Rattle.vme_backplane.proofs.backplanes.Backplane.accepted.Goals as goal

pub returns-clause-room : goal.returns-clause-room
returns-clause-room c = has_room c.args.self.now c.args.edge c.requires

pub returns-clause-allowed : goal.returns-clause-allowed
returns-clause-allowed c = is_allowed c.args.self.now c.args.edge c.requires

pub returns-clause-well_formed : goal.returns-clause-well_formed
returns-clause-well_formed c =
    let b = c.args.self.now in
    allowed_is_well_formed b.version b.plan b.history c.args.edge (is_allowed b c.args.edge c.requires)
