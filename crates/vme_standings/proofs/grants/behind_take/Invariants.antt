use Rattle.std.proofs.Common.{false}
use Rattle.std.specs.Prelude.{◌&&◌, ◌==◌}
use Rattle.vme_standings.specs.Grants.{is_taken}
use Rattle.vme_standings.specs.Phases.{HasFree}
use Rattle.vme_standings.proofs.Rows.{AreMade}
use Rattle.vme_standings.proofs.grants.behind_take.Given as goal

abbrev pub invariant-loop-board : goal.invariant-loop-board
invariant-loop-board l = record {
  made : AreMade l.behind l.board (λ b t. t == 0 && is_taken l.plan l.requests l.phases b);
  free : HasFree l.behind (λ q. false);
}
