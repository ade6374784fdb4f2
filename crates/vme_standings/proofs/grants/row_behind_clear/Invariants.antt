use Rattle.std.proofs.Common.{◌≡◌, ℕ}
use Rattle.std.specs.Prelude.{◌&&◌, nat_lt}
use Rattle.vme_bus.specs.Sets.{has}
use Rattle.vme_standings.specs.Grants.{are_alike}
use Rattle.vme_standings.proofs.grants.row_behind_clear.Given as goal

abbrev pub invariant-loop-first : goal.invariant-loop-first
invariant-loop-first l = (t : ℕ) → has l.kept t ≡ (nat_lt t l.first && has l.row t && are_alike (l.is_outranked && nat_lt 0 t) l.is_due)
