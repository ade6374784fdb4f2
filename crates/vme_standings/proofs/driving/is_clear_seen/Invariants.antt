use Rattle.std.proofs.Common.{◌≡◌, ◌<◌, ℕ, true}
use Rattle.std.specs.Prelude.{◌&&◌, nat_lt}
use Rattle.vme_bus.specs.Sets.{has}
use Rattle.vme_standings.specs.Grants.{are_alike}
use Rattle.vme_standings.proofs.driving.is_clear_seen.Given as goal

abbrev pub invariant-loop-first : goal.invariant-loop-first
invariant-loop-first l =
    (t : ℕ) → t < l.first → has l.row t ≡ true → are_alike (l.is_outranked && nat_lt 0 t) l.is_due ≡ true → ⊥
