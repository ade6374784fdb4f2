use Rattle.vme_shrink_search.proofs.Searches.{IsPassing}
use Rattle.vme_shrink_search.proofs.search.Search.pass.Given as goal

abbrev pub invariant-ends : goal.invariant-ends
invariant-ends g l = IsPassing l.fn.self l.self l.fn.size l.end l.has_left

abbrev pub decreases-ends : goal.decreases-ends
decreases-ends g l = l.end
