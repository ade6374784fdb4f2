use Rattle.std.specs.Prelude.{◌&&◌, not, nat_lt}
use Rattle.vme_bus.specs.Sets.{has}
use Rattle.vme_model.specs.Rules.{is_pri}
use Rattle.vme_standings.specs.Grants.{are_alike, is_outranked}
use Rattle.vme_standings.specs.Phases.{HasFree, has_phase, held_row}
use Rattle.vme_standings.proofs.Rows.{AreMade}
use Rattle.vme_standings.proofs.grants.behind_clear.Given as goal

abbrev pub invariant-loop-board : goal.invariant-loop-board
invariant-loop-board l = record {
  made : AreMade l.behind l.board (λ b t. has (held_row l.phases b) t && are_alike ((is_pri l.plan.arbiter && is_outranked l.plan l.requests b) && nat_lt 0 t) l.fall);
  free : HasFree l.behind (λ q. has_phase l.phases q && not l.fall);
}
