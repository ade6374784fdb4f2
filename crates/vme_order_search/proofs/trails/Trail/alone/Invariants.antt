use Rattle.std.proofs.Common.{reverse, take}
use Rattle.vme_order_search.specs.Trails.{Ends, IsTrail}
use Rattle.vme_order_search.proofs.trails.Trail.alone.Given as goal

abbrev pub invariant-loop-place : goal.invariant-loop-place
invariant-loop-place l =
    IsTrail l.trail × Ends l.trail l.at (reverse (take l.place-index l.place-items))
