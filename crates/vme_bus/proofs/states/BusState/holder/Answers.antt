use Rattle.std.proofs.Common.{◌≡◌, ◌∙◌, ◌<◌, sym, refl, subst, find, None, ℕ, arith}
use Rattle.vme_model.specs.declared.signals.Driver.TheVariants.{Slot}
use Rattle.vme_model.specs.declared.signals.Wire.TheVariants.{Bbsy}
use Rattle.vme_model.specs.Plan.{up_to}
use Rattle.vme_model.specs.History.{drive}
use Rattle.vme_model.proofs.Ranges.{in_range}
use Rattle.vme_bus.proofs.Standing.{least_up_to, none_up_to}
use Rattle.vme_bus.proofs.states.BusState.holder.Goals as goal

pub loop-below-init : goal.loop-below-init
loop-below-init c = λ version p h is. refl

pub loop-below-preserved : goal.loop-below-preserved
loop-below-preserved c = λ version p h is.
    none_up_to (λ s. drive h (Slot s) Bbsy) c.loop-below.below (c.loop-below.invariant version p h is)
    (sym (c.is_slot_low.ensures version p h is) ∙ c.if-is_slot_low.false)

pub returns-then-is_slot_low : goal.returns-then-is_slot_low
returns-then-is_slot_low c = λ version p h is.
    let slots = is.layout.slots in
    let end = c.min-below-end.ensures in
    let inside : c.loop-below.below < p.slots = omega (arith, slots, end) in
    sym (least_up_to (λ s. drive h (Slot s) Bbsy) p.slots c.loop-below.below inside (c.loop-below.invariant version p h is)
    (sym (c.is_slot_low.ensures version p h is) ∙ c.if-is_slot_low.true))

pub returns : goal.returns
returns c = λ version p h is.
    let slots = is.layout.slots in
    let most = (in_range p is.accepted).most in
    let end = c.min-below-end.ensures in
    let ended : c.loop-below.below ≡ p.slots = omega (arith, slots, most, end) in
    sym (subst (λ (n : ℕ). find (λ s. drive h (Slot s) Bbsy) (up_to n) ≡ None) ended (c.loop-below.invariant version p h is))
