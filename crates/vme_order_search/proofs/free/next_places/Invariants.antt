use Rattle.std.proofs.Common.{◌<◌, ◌-◌, ℕ, List, All, length}
use Rattle.vme_order_search.specs.Places.{AreTaken}
use Rattle.vme_order_search.proofs.Next.{AreNextBelow}
use Rattle.vme_order_search.proofs.free.next_places.Given as goal

abbrev pub invariant-places : goal.invariant-places
invariant-places l =
    All (λ p. p < length l.seen) l.places.items
    × ((places : List ℕ) → AreTaken places l.taken
    → AreNextBelow l.slacks l.seen places l.places.items l.from)

abbrev pub decreases-places : goal.decreases-places
decreases-places l = length l.seen - l.from
