use Rattle.std.proofs.Common.{◌≡◌, ◌∙◌, ◌+◌, sym, ap, arith}
use Rattle.vme_model.specs.declared.signals.Driver.TheVariants.{Slot}
use Rattle.vme_model.specs.declared.signals.Wire.TheVariants.{Bbsy}
use Rattle.vme_model.specs.Plan.{Plan}
use Rattle.vme_model.specs.History.{drive}
use Rattle.vme_reasons.proofs.Found.{least_up_to, none_up_to}
use Rattle.vme_pictures.proofs.Ranges.{slot_of_plan}
use Rattle.vme_pictures.proofs.grants.holder.Goals as goal

pub returns-then-is_low-clause-slot : goal.returns-then-is_low-clause-slot
returns-then-is_low-clause-slot c = let b = c.args.bus.now in
    sym (least_up_to (λ s. drive b.history (Slot s) Bbsy) b.plan.slots c.loop-below.below (let n : c.plan.result.now.slots ≡ b.plan.slots = ap (λ (p : Plan). p.slots) c.plan.ensures in omega (arith, n)) c.loop-below.invariant (sym c.is_low.ensures ∙ c.if-is_low.true))

pub returns-then-is_low-clause-range : goal.returns-then-is_low-clause-range
returns-then-is_low-clause-range c = let b = c.args.bus.now in
    slot_of_plan b.plan c.laws.ensures.accepted (c.loop-below.below + 1) (let n : c.plan.result.now.slots ≡ b.plan.slots = ap (λ (p : Plan). p.slots) c.plan.ensures in omega (arith, n))

pub loop-below-preserved : goal.loop-below-preserved
loop-below-preserved c = let b = c.args.bus.now in
    none_up_to (λ s. drive b.history (Slot s) Bbsy) c.loop-below.below c.loop-below.invariant (sym c.is_low.ensures ∙ c.if-is_low.false)
