use Rattle.std.proofs.Common.{◌≡◌, ◌∙◌, sym, subst, []}
use Rattle.vme_model.specs.declared.signals.Driver.TheVariants.{Slot}
use Rattle.vme_model.specs.Offers.{offered}
use Rattle.vme_model.specs.Verdict.{State}
use Rattle.vme_histories.proofs.OfferChoice.{none_offered}
use Rattle.vme_histories.proofs.NoOffers.{none_waits}
use Rattle.vme_bus.specs.Sets.{has}
use Rattle.vme_bus.proofs.Ready.{neither}
use Rattle.vme_bus.proofs.choices.Turns.movers.Goals as goal

pub returns : goal.returns
returns c = λ s off.
    let b = c.self.inside.bus in
    let ready = c.self.inside.ready in
    let t = neither _ (has ready.interrupters s) (sym (c.slots.ensures s) ∙ off) in
    let u = neither (has ready.requesters s) (has ready.masters s) t.0 in
    subst (λ (x : State). offered x (Slot s) ≡ []) c.self.view_is
    (none_offered b (Slot s) (none_waits b.version b.plan b.history s (c.self.invariant.requesters s u.0) (c.self.invariant.masters s u.1) (c.self.invariant.interrupters s t.1)))
