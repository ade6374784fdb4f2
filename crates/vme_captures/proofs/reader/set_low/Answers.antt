use Rattle.std.proofs.Common.{arith, ◌∙◌}
use Rattle.vme_captures.specs.Taking.{with_low}
use Rattle.vme_captures.proofs.Same.{mapped_all, mapped_next}
use Rattle.vme_captures.proofs.reader.set_low.Goals as goal

pub loop-at-preserved : goal.loop-at-preserved
loop-at-preserved c =
    mapped_next (with_low c.args.pin c.args.low) _ c.args.probes.now c.loop-at.probes c.loop-at.at c.with_low.result
    c.loop-at-test.true c.loop-at.invariant c.with_low.ensures

pub returns : goal.returns
returns c = c.loop-at.invariant ∙ mapped_all (with_low c.args.pin c.args.low) c.args.probes.now c.loop-at.at (grind arith)
