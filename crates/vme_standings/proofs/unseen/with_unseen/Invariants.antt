use Rattle.std.proofs.Common.{◌≡◌, ◌≤◌, true}
use Rattle.vme_model.specs.Accepted.{IsAccepted}
use Rattle.vme_standings.specs.declared.phases.GrantPhase.{GrantPhase}
use Rattle.vme_standings.specs.Phases.{has_phase}
use Rattle.vme_standings.proofs.UnseenPhases.{HeldRises, InRows, Only, idle_count}
use Rattle.vme_standings.proofs.unseen.with_unseen.Given as goal

abbrev pub invariant-loop-round : goal.invariant-loop-round
invariant-loop-round l = record {
  accepted : IsAccepted l.plan;
  kept : (q : GrantPhase) → InRows q → has_phase l.phases q ≡ true → has_phase l.reached q ≡ true;
  held : HeldRises l.plan l.probed l.phases l.reached;
  only : (ok : IsAccepted l.plan) → Only l.plan ok l.version l.requests l.probed l.phases l.reached;
  many : l._round ≤ idle_count l.reached;
}
