use Rattle.std.specs.Prelude.{◌&&◌}
use Rattle.vme_standings.specs.declared.phases.GrantPhase.TheVariants.{Held}
use Rattle.vme_standings.specs.Cuts.{is_so}
use Rattle.vme_standings.specs.Phases.{HasFree, has_phase}
use Rattle.vme_standings.proofs.Rows.{AreMade}
use Rattle.vme_standings.proofs.phases.GrantPhases.keeping.Given as goal

abbrev pub invariant-loop-board : goal.invariant-loop-board
invariant-loop-board l = record {
  made : AreMade l.kept l.board (λ b t. has_phase l.self (Held b t) && is_so l.plan l.fact (Held b t));
  free : HasFree l.kept (λ q. has_phase l.self q && is_so l.plan l.fact q);
}
