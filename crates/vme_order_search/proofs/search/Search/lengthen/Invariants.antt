use Rattle.std.proofs.Common.{◌≡◌, ℕ}
use Rattle.vme_order_search.specs.Searching.{HasLayer, IsFit, IsUnderWay, Task}
use Rattle.vme_order_search.proofs.search.Search.lengthen.Given as goal

abbrev pub invariant-loop-index : goal.invariant-loop-index
invariant-loop-index l =
    IsFit l.self × (l.self.layer ≡ l.fn.self.layer) × (l.self.width ≡ l.fn.self.width)
    × ((t : Task) (n : ℕ) → t.seen ≡ l.seen → t.slacks ≡ l.slacks → HasLayer t n l.fn.self
    → IsUnderWay t n l.index 0 l.self)
