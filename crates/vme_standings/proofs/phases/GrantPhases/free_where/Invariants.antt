use Rattle.std.proofs.Common.{◌<◌, ℕ}
use Rattle.std.specs.Prelude.{◌&&◌}
use Rattle.vme_standings.specs.Cuts.{is_so}
use Rattle.vme_standings.specs.Phases.{expired_row, granting_row, has_phase, is_idle_at}
use Rattle.vme_standings.proofs.LevelRows.{PassesLevel}
use Rattle.vme_standings.proofs.phases.GrantPhases.free_where.Given as goal

abbrev pub invariant-loop-level : goal.invariant-loop-level
invariant-loop-level l = (c : ℕ) → c < l.level → PassesLevel (λ q. has_phase l.self q && is_so l.plan l.fact q) c (is_idle_at l.kept c) (granting_row l.kept c) (expired_row l.kept c)
