use Rattle.std.proofs.Common.{◌∙◌, sym}
use Rattle.vme_probe.specs.Demands.{is_left}
use Rattle.vme_probe.proofs.First.{ended, fails, passes, some_demand}
use Rattle.vme_probe.proofs.left.first_failing.Goals as goal

pub returns-then-not-is_left : goal.returns-then-not-is_left
returns-then-not-is_left c =
    sym (c.loop-place.invariant
    ∙ fails (is_left c.args.plan.now c.args.standings.now c.args.own) c.args.demands.now c.loop-place.place some_demand
    c.loop-place-test.true (sym c.is_left.ensures ∙ c.if-not-is_left.true))

pub loop-place-preserved : goal.loop-place-preserved
loop-place-preserved c =
    c.loop-place.invariant
    ∙ passes (is_left c.args.plan.now c.args.standings.now c.args.own) c.args.demands.now c.loop-place.place some_demand
    c.loop-place-test.true (sym c.is_left.ensures ∙ c.if-not-is_left.false)

pub returns : goal.returns
returns c =
    sym (c.loop-place.invariant
    ∙ ended (is_left c.args.plan.now c.args.standings.now c.args.own) c.args.demands.now c.loop-place.place c.loop-place-test.false)
