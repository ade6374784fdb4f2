use Rattle.std.proofs.Common.{ℕ, List}
use Rattle.vme_order.specs.Places.{AreTaken, AreUnfree}
use Rattle.vme_order.proofs.free.next_free.Given as goal

abbrev pub invariant-loop-place : goal.invariant-loop-place
invariant-loop-place l =
    (places : List ℕ) → AreTaken l.seen places l.taken
    → AreUnfree l.slacks l.seen places l.from l.place
