use Rattle.std.proofs.Common.{◌∙◌, sym, length}
use Rattle.std.specs.Prelude.{◌%◌}
use Rattle.vme_model.specs.Offers.{offered}
use Rattle.vme_histories.proofs.AcceptedOffers.{offer_is_accepted}
use Rattle.vme_bus.proofs.choices.Turns.make_offer.Goals as goal

pub take-requires : goal.take-requires
take-requires c =
    let b = c.args.self.now in
    offer_is_accepted b c.args.driver (c.args.round % length (offered b c.args.driver)) c.in-Some.edge (sym c.offer-offer.ensures ∙ c.in-Some.is)
