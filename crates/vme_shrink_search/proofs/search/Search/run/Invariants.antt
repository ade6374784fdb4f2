use Rattle.std.proofs.Common.{◌+◌, length}
use Rattle.vme_shrink_search.proofs.Searches.{IsRunning}
use Rattle.vme_shrink_search.proofs.search.Search.run.Given as goal

abbrev pub invariant-sizes : goal.invariant-sizes
invariant-sizes g l = IsRunning l.fn.self l.self l.size l.has_left

abbrev pub decreases-sizes : goal.decreases-sizes
decreases-sizes g l = l.size + length l.self.list.items
