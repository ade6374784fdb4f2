use Rattle.std.proofs.Common.{◌≡◌, ℕ}
use Rattle.std.specs.Prelude.{◌&&◌, nat_lt}
use Rattle.vme_bus.specs.Sets.{has}
use Rattle.vme_standings.specs.Cuts.{is_so, phase_at}
use Rattle.vme_standings.proofs.cuts.row_where.Given as goal

abbrev pub invariant-loop-place : goal.invariant-loop-place
invariant-loop-place l = (t : ℕ) → has l.kept t ≡ (nat_lt t l.place && (has l.places t && is_so l.plan l.fact (phase_at l.row t)))
