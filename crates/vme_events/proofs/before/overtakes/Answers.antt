use Rattle.std.proofs.Common.{◌≡◌, ◌∙◌, ap, sym, true, arith}
use Rattle.std.specs.Prelude.{◌&&◌}
use Rattle.std.specs.List.{list_any}
use Rattle.vme_model.specs.declared.signals.Wire.TheVariants.{Br}
use Rattle.vme_model.specs.Plan.{Plan, up_to}
use Rattle.vme_model.specs.History.{drive}
use Rattle.vme_events.specs.Events.{asked_before}
use Rattle.vme_events.proofs.Waiting.{none_passes, one_passes}
use Rattle.vme_events.proofs.before.overtakes.Goals as goal

pub returns-then-asked_before : goal.returns-then-asked_before
returns-then-asked_before c = λ k n same marks below.
    let b = c.args.bus.now in
    let older = asked_before b.history c.args.driver in
    let slots : c.plan.result.now.slots ≡ b.plan.slots = ap (λ (p : Plan). p.slots) c.plan.ensures in
    let low : drive b.history c.args.driver Br ≡ true = sym (c.is_low.ensures.low) ∙ c.if-not-is_low.false in
    sym (ap (λ t. t && list_any older (up_to b.plan.slots)) low
    ∙ one_passes older b.plan.slots c.loop-below.below (omega (arith, slots, c.slots-below-end.ensures, c.loop-below-test.true))
    (sym (c.asked_before.ensures k n same marks below low) ∙ c.if-asked_before.true))

pub loop-below-preserved : goal.loop-below-preserved
loop-below-preserved c = λ k n same marks below.
    let b = c.args.bus.now in
    let low : drive b.history c.args.driver Br ≡ true = sym (c.is_low.ensures.low) ∙ c.if-not-is_low.false in
    none_passes (asked_before b.history c.args.driver) c.loop-below.below (c.loop-below.invariant k n same marks below)
    (sym (c.asked_before.ensures k n same marks below low) ∙ c.if-asked_before.false)
