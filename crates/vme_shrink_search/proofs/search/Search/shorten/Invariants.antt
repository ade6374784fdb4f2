use Rattle.std.proofs.Common.{◌+◌, if◌then◌else◌, length}
use Rattle.vme_shrink_search.proofs.Searches.{IsShortening}
use Rattle.vme_shrink_search.proofs.search.Search.shorten.Given as goal

abbrev pub invariant-runs : goal.invariant-runs
invariant-runs g l = IsShortening l.fn.self l.self l.has_left

abbrev pub decreases-runs : goal.decreases-runs
decreases-runs g l = length l.self.list.items + (if l.has_left then 1 else 0)
