use Rattle.std.proofs.Common.{◌≡◌, ℕ}
use Rattle.std.specs.Prelude.{◌&&◌, nat_lt, not}
use Rattle.vme_bus.specs.Sets.{has}
use Rattle.vme_standings.proofs.hidden.unseen.Given as goal

abbrev pub invariant-loop-place : goal.invariant-loop-place
invariant-loop-place l = (s : ℕ) → has l.found s ≡ (nat_lt s l.place && not (has l.probed s))
