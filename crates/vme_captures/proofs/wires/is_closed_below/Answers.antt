use Rattle.std.proofs.Common.{◌-◌, arith, sym}
use Rattle.vme_captures.specs.Wires.{is_closed}
use Rattle.vme_captures.proofs.BelowSlots.{all_below, next_below, some_below}
use Rattle.vme_captures.proofs.wires.is_closed_below.Goals as goal

pub returns-then-not-is_closed : goal.returns-then-not-is_closed
returns-then-not-is_closed c =
    sym (some_below (is_closed c.args.plan.now c.args.chain) (c.args.slot - 1) c.loop-below.below
    (omega arith) (omega arith) (grind arith))

pub loop-below-preserved : goal.loop-below-preserved
loop-below-preserved c =
    next_below (is_closed c.args.plan.now c.args.chain) c.loop-below.below c.loop-below.invariant (grind arith)

pub returns : goal.returns
returns c =
    sym (all_below (is_closed c.args.plan.now c.args.chain) (c.args.slot - 1)
    (λ k low high. c.loop-below.invariant k low (omega arith)))
