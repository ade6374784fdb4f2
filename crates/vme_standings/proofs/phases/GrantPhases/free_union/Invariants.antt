use Rattle.std.proofs.Common.{◌<◌, ℕ}
use Rattle.std.specs.Prelude.{◌||◌}
use Rattle.vme_standings.specs.Phases.{expired_row, granting_row, has_phase, is_idle_at}
use Rattle.vme_standings.proofs.LevelRows.{PassesLevel}
use Rattle.vme_standings.proofs.phases.GrantPhases.free_union.Given as goal

abbrev pub invariant-loop-level : goal.invariant-loop-level
invariant-loop-level l = (c : ℕ) → c < l.level → PassesLevel (λ q. has_phase l.self q || has_phase l.other q) c (is_idle_at l.union c) (granting_row l.union c) (expired_row l.union c)
