use Rattle.std.proofs.Common.{ℕ, List}
use Rattle.vme_order_search.specs.Places.{AreTaken, AreUnfree}
use Rattle.vme_order_search.proofs.free.next_free.Given as goal

abbrev pub invariant-loop-place : goal.invariant-loop-place
invariant-loop-place l =
    (places : List ℕ) → AreTaken places l.taken
    → AreUnfree l.slacks l.seen places l.from l.place
