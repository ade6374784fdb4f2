use Rattle.std.proofs.Common.{false}
use Rattle.std.specs.Prelude.{◌&&◌}
use Rattle.vme_bus.specs.Sets.{has}
use Rattle.vme_standings.specs.Phases.{HasFree, held_row}
use Rattle.vme_standings.proofs.Rows.{AreMade}
use Rattle.vme_standings.proofs.phases.GrantPhases.held_by.Given as goal

abbrev pub invariant-loop-board : goal.invariant-loop-board
invariant-loop-board l = record {
  made : AreMade l.kept l.board (λ b t. has l.boards b && has (held_row l.self b) t);
  free : HasFree l.kept (λ q. false);
}
