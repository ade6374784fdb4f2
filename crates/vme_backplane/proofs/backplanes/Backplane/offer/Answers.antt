use Rattle.std.proofs.Common.{◌∙◌, sym, ap, List, length}
use Rattle.std.specs.Prelude.{◌%◌, slice_get}
use Rattle.vme_model.specs.declared.signals.Edge.{Edge}
use Rattle.vme_histories.proofs.OfferChoice.{none_offered}
use Rattle.vme_backplane.proofs.backplanes.Backplane.offer.Goals as goal

pub returns-then-is_waiting : goal.returns-then-is_waiting
returns-then-is_waiting c =
    sym (ap (λ (es : List Edge). slice_get es (c.args.round % length es)) (none_offered c.args.self.now c.args.driver (c.is_waiting.ensures.none c.if-is_waiting.true)))

pub returns : goal.returns
returns c = c.choice.ensures ∙ ap (λ (es : List Edge). slice_get es (c.args.round % length es)) (c.as_slice.ensures.value ∙ c.offers.ensures)
