use Rattle.std.proofs.Common.{◌≡◌, ◌<◌, ℕ}
use Rattle.vme_standings.specs.Phases.{expired_row, granting_row, is_idle_at}
use Rattle.vme_standings.specs.Unseen.{ReachesLevel}
use Rattle.vme_standings.proofs.unseen.round.Given as goal

abbrev pub invariant-loop-level : goal.invariant-loop-level
invariant-loop-level l = record {
  level : (c : ℕ) → c < l.level → ReachesLevel l.plan l.version l.requests l.probed c l.from (is_idle_at l.reached c) (granting_row l.reached c) (expired_row l.reached c);
  held : l.reached.held ≡ l.from.held;
}
