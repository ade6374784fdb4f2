use Rattle.std.proofs.Common.{◌≡◌, ◌<◌, ◌≤◌, ◌-◌, ℕ, true, length}
use Rattle.vme_order.specs.Places.{holds}
use Rattle.vme_order.proofs.taken.Taken.count_on.Given as goal

abbrev pub invariant-places : goal.invariant-places
invariant-places l =
    (l.self.flags.items ≡ l.fn.self.flags.items) × (l.self.least ≤ length l.self.flags.items)
    × ((i : ℕ) → i < l.self.least → holds l.self i ≡ true)

abbrev pub decreases-places : goal.decreases-places
decreases-places l = length l.initial.self.flags.items - l.self.least
