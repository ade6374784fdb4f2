use Rattle.std.proofs.Common.{◌∙◌, sym, ap, ◌%◌, List, length}
use Rattle.std.specs.Prelude.{slice_get}
use Rattle.vme_model.specs.declared.signals.Driver.TheVariants.{Controller}
use Rattle.vme_model.specs.declared.signals.Edge.{Edge}
use Rattle.vme_backplane.proofs.OfferChoice.{offered_full, offered_with_room}
use Rattle.vme_bus.proofs.buses.Bus.controller_offer.Goals as goal

pub returns-then-is_full : goal.returns-then-is_full
returns-then-is_full c = sym (ap (λ (l : List Edge). slice_get l (c.args.round % length l)) (offered_full c.args.self.now Controller (sym c.is_full.ensures ∙ c.if-is_full.true)))

pub returns : goal.returns
returns c = c.controller_offer_but_full.ensures ∙ sym (ap (λ (l : List Edge). slice_get l (c.args.round % length l)) (offered_with_room c.args.self.now Controller (sym c.is_full.ensures ∙ c.if-is_full.false)))
