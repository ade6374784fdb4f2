use Rattle.std.proofs.Common.{◌∙◌, sym, ap, ◌%◌, List, length}
use Rattle.std.specs.Prelude.{slice_get}
use Rattle.vme_model.specs.declared.signals.Edge.{Edge}
use Rattle.vme_histories.proofs.OfferChoice.{offered_full, offered_with_room}
use Rattle.vme_bus.proofs.buses.Bus.ready_offer.Goals as goal

pub returns-then-is_full : goal.returns-then-is_full
returns-then-is_full c = sym (ap (λ (l : List Edge). slice_get l (c.args.round % length l)) (offered_full c.args.self.now c.args.driver (sym c.is_full.ensures ∙ c.if-is_full.true)))

pub returns : goal.returns
returns c = c.ready_offer_but_full.ensures ∙ sym (ap (λ (l : List Edge). slice_get l (c.args.round % length l))
    (offered_with_room c.args.self.now c.args.driver (sym c.is_full.ensures ∙ c.if-is_full.false)))
