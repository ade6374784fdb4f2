use Rattle.std.proofs.Common.{◌≡◌, ◌<◌, ℕ}
use Rattle.vme_standings.specs.Phases.{held_row}
use Rattle.vme_standings.specs.Unseen.{RisesHeld}
use Rattle.vme_standings.proofs.unseen.with_held.Given as goal

abbrev pub invariant-loop-board : goal.invariant-loop-board
invariant-loop-board l = record {
  held : (b : ℕ) → b < l.board → RisesHeld l.plan l.probed b (held_row l.phases b) (held_row l.reached b);
  idle : l.reached.idle ≡ l.phases.idle;
  granting : l.reached.granting ≡ l.phases.granting;
  expired : l.reached.expired ≡ l.phases.expired;
}
