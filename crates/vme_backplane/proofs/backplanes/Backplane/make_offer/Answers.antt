use Rattle.std.proofs.Common.{◌∙◌, sym, length}
use Rattle.std.specs.Prelude.{◌%◌}
use Rattle.vme_model.specs.Offers.{offered}
use Rattle.vme_backplane.proofs.Making.{is_allowed, has_room, offer_is_accepted}
use Rattle.vme_backplane.proofs.WellFormed.{allowed_is_well_formed}
use Rattle.vme_backplane.proofs.backplanes.Backplane.make_offer.Goals as goal

pub make_by_wire-requires-clause-room : goal.make_by_wire-requires-clause-room
make_by_wire-requires-clause-room c =
    let b = c.args.self.now in
    let k = c.args.round % length (offered b c.args.driver) in
    has_room b c.in-Some.edge (offer_is_accepted b c.args.driver k c.in-Some.edge (sym c.offer-offer.ensures ∙ c.in-Some.is))

pub make_by_wire-requires-clause-allowed : goal.make_by_wire-requires-clause-allowed
make_by_wire-requires-clause-allowed c =
    let b = c.args.self.now in
    let k = c.args.round % length (offered b c.args.driver) in
    is_allowed b c.in-Some.edge (offer_is_accepted b c.args.driver k c.in-Some.edge (sym c.offer-offer.ensures ∙ c.in-Some.is))

pub make_by_wire-requires-clause-well_formed : goal.make_by_wire-requires-clause-well_formed
make_by_wire-requires-clause-well_formed c =
    let b = c.args.self.now in
    let k = c.args.round % length (offered b c.args.driver) in
    allowed_is_well_formed b.version b.plan b.history c.in-Some.edge (is_allowed b c.in-Some.edge (offer_is_accepted b c.args.driver k c.in-Some.edge (sym c.offer-offer.ensures ∙ c.in-Some.is)))
