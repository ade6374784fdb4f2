use Rattle.std.proofs.Common.{◌≡◌, ◌<◌, length}
use Rattle.vme_order_search.specs.Searching.{HasLayer, IsFit, Task}
use Rattle.vme_order_search.proofs.search.Search.run.Given as goal

abbrev pub invariant-loop-length : goal.invariant-loop-length
invariant-loop-length g l =
    IsFit l.self × (0 < length l.self.layer.kept.items) × (l.self.width ≡ l.fn.self.width)
    × ((t : Task) → t.seen ≡ l.seen → t.slacks ≡ l.slacks → HasLayer t 0 l.fn.self
    → HasLayer t l.length l.self)
