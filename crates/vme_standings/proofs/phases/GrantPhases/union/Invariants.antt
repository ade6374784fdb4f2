use Rattle.std.specs.Prelude.{◌||◌}
use Rattle.vme_standings.specs.declared.phases.GrantPhase.TheVariants.{Held}
use Rattle.vme_standings.specs.Phases.{HasFree, has_phase}
use Rattle.vme_standings.proofs.Rows.{AreMade}
use Rattle.vme_standings.proofs.phases.GrantPhases.union.Given as goal

abbrev pub invariant-loop-board : goal.invariant-loop-board
invariant-loop-board l = record {
  made : AreMade l.union l.board (λ b t. has_phase l.self (Held b t) || has_phase l.other (Held b t));
  free : HasFree l.union (λ q. has_phase l.self q || has_phase l.other q);
}
