use Rattle.std.proofs.Common.{◌≡◌, ◌<◌, ℕ}
use Rattle.vme_samples.specs.Places.{has_place}
use Rattle.vme_samples.proofs.places.Places.is_before.Given as goal

abbrev pub invariant-loop-place : goal.invariant-loop-place
invariant-loop-place l = (j : ℕ) → j < l.place → has_place l.self j ≡ has_place l.other j
