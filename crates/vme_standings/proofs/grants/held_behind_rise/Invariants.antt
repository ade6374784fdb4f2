use Rattle.std.proofs.Common.{false}
use Rattle.std.specs.Prelude.{◌&&◌}
use Rattle.vme_bus.specs.Sets.{has}
use Rattle.vme_standings.specs.Grants.{is_let_go}
use Rattle.vme_standings.specs.Phases.{HasFree}
use Rattle.vme_standings.proofs.Rows.{AreMade}
use Rattle.vme_standings.proofs.grants.held_behind_rise.Given as goal

abbrev pub invariant-loop-board : goal.invariant-loop-board
invariant-loop-board l = record {
  made : AreMade l.behind l.board (λ b t. is_let_go l.plan l.level l.place l.phases b && has l.next t);
  free : HasFree l.behind (λ q. false);
}
