use Rattle.std.proofs.Common.{◌≡◌, ◌<◌, ℕ, true, false}
use Rattle.std.specs.Prelude.{Some}
use Rattle.vme_standings.specs.declared.phases.GrantPhase.{GrantPhase}
use Rattle.vme_standings.specs.Cuts.{is_nowhere}
use Rattle.vme_standings.specs.Phases.{has_phase, level_of}
use Rattle.vme_standings.proofs.phases.GrantPhases.may_be_nowhere.Given as goal

abbrev pub invariant-loop-level : goal.invariant-loop-level
invariant-loop-level l = (q : GrantPhase) (c : ℕ) → c < l.level → level_of q ≡ Some c → is_nowhere l.plan q ≡ true → has_phase l.self q ≡ false
