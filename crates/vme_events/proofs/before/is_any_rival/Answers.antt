use Rattle.std.proofs.Common.{◌≡◌, ◌∙◌, ap, sym, arith}
use Rattle.vme_model.specs.Plan.{Plan}
use Rattle.vme_events.specs.Events.{is_rival}
use Rattle.vme_events.proofs.Waiting.{none_passes, one_passes}
use Rattle.vme_events.proofs.before.is_any_rival.Goals as goal

pub returns-then-is_rival : goal.returns-then-is_rival
returns-then-is_rival c = λ k same marks.
    let b = c.args.bus.now in
    let slots : c.plan.result.now.slots ≡ b.plan.slots = ap (λ (p : Plan). p.slots) c.plan.ensures in
    sym (one_passes (is_rival b.plan b.history c.args.driver c.args.level) b.plan.slots c.loop-below.below (omega (arith, slots, c.slots-below-end.ensures, c.loop-below-test.true))
    (sym (c.is_rival.ensures k same marks) ∙ c.if-is_rival.true))

pub loop-below-preserved : goal.loop-below-preserved
loop-below-preserved c = λ k same marks.
    let b = c.args.bus.now in
    none_passes (is_rival b.plan b.history c.args.driver c.args.level) c.loop-below.below (c.loop-below.invariant k same marks) (sym (c.is_rival.ensures k same marks) ∙ c.if-is_rival.false)
