use Rattle.std.proofs.Common.{◌∙◌, sym, ap, arith, ◌≡◌}
use Rattle.vme_model.specs.declared.signals.Driver.TheVariants.{Slot}
use Rattle.vme_model.specs.Plan.{Plan}
use Rattle.vme_model.specs.History.{drive}
use Rattle.vme_reasons.proofs.Found.{least_up_to, none_up_to}
use Rattle.vme_reasons.proofs.drivers.first_low.Goals as goal

pub returns-then-is_low : goal.returns-then-is_low
returns-then-is_low c = λ k same marks. let b = c.args.bus.now in
    sym (least_up_to (λ s. drive b.history (Slot s) c.args.wire) b.plan.slots c.loop-below.below (let n : c.plan.result.now.slots ≡ b.plan.slots = ap (λ (p : Plan). p.slots) c.plan.ensures in omega (arith, n)) (c.loop-below.invariant k same marks) (sym (c.is_low.ensures.low k same marks) ∙ c.if-is_low.true))

pub loop-below-preserved : goal.loop-below-preserved
loop-below-preserved c = λ k same marks. let b = c.args.bus.now in
    none_up_to (λ s. drive b.history (Slot s) c.args.wire) c.loop-below.below (c.loop-below.invariant k same marks) (sym (c.is_low.ensures.low k same marks) ∙ c.if-is_low.false)
