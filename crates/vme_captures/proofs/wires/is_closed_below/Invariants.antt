use Rattle.std.proofs.Common.{◌≡◌, ◌≤◌, ◌<◌, ℕ, true}
use Rattle.vme_captures.specs.Wires.{is_closed}
use Rattle.vme_captures.proofs.wires.is_closed_below.Given as goal

abbrev pub invariant-loop-below : goal.invariant-loop-below
invariant-loop-below l = (k : ℕ) → 1 ≤ k → k < l.below → is_closed l.plan l.chain k ≡ true
