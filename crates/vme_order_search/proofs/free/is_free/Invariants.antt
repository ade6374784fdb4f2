use Rattle.std.proofs.Common.{◌≡◌, ◌<◌, ◌≤◌, ℕ, false}
use Rattle.vme_moments.specs.Orders.{came_before}
use Rattle.vme_order_search.specs.Places.{holds}
use Rattle.vme_order_search.proofs.free.is_free.Given as goal

abbrev pub invariant-loop-other : goal.invariant-loop-other
invariant-loop-other l =
    (i : ℕ) → l.taken.least ≤ i → i < l.other → holds l.taken i ≡ false
    → came_before l.slacks l.seen i l.place ≡ false
