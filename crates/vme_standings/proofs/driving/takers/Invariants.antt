use Rattle.std.proofs.Common.{◌≡◌, ℕ}
use Rattle.std.specs.Prelude.{◌&&◌, nat_lt}
use Rattle.vme_model.specs.Accepted.{IsAccepted}
use Rattle.vme_bus.specs.Sets.{has}
use Rattle.vme_standings.specs.Grants.{is_taken}
use Rattle.vme_standings.proofs.driving.takers.Given as goal

abbrev pub invariant-loop-board : goal.invariant-loop-board
invariant-loop-board l = record {
  accepted : IsAccepted l.plan;
  held : (s : ℕ) → has l.found s ≡ (nat_lt s l.board && is_taken l.plan l.requests l.phases s);
}
