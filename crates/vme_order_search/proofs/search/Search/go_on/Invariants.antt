use Rattle.std.proofs.Common.{◌≡◌, ◌-◌, ℕ, length}
use Rattle.vme_order_search.specs.Searching.{IsAt, IsFit, IsSameSearch, Task}
use Rattle.vme_order_search.proofs.search.Search.go_on.Given as goal

abbrev pub invariant-places : goal.invariant-places
invariant-places l =
    IsFit l.self × IsSameSearch l.fn.self l.self
    × ((t : Task) (n m : ℕ) → t.seen ≡ l.seen → t.slacks ≡ l.slacks
    → IsAt t n m 0 l.front l.fn.self → IsAt t n m l.from l.front l.self)

abbrev pub decreases-places : goal.decreases-places
decreases-places l = length l.seen - l.from
