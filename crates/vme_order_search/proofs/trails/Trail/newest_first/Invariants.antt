use Rattle.std.proofs.Common.{ℕ, List}
use Rattle.vme_order_search.specs.Trails.{Ends}
use Rattle.vme_order_search.proofs.Steps.{WentBack}
use Rattle.vme_order_search.proofs.trails.Trail.newest_first.Given as goal

abbrev pub invariant-steps : goal.invariant-steps
invariant-steps l =
    (path : List ℕ) → Ends l.self l.fn.step path → WentBack l.self l.at path l.places.items

abbrev pub decreases-steps : goal.decreases-steps
decreases-steps l = l.at
