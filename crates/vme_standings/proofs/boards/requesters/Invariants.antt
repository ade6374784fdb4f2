use Rattle.std.proofs.Common.{◌≡◌, ℕ}
use Rattle.std.specs.Prelude.{◌&&◌, nat_lt}
use Rattle.vme_model.specs.Accepted.{IsAccepted}
use Rattle.vme_standings.specs.Boards.{has_requester}
use Rattle.vme_bus.specs.Sets.{has}
use Rattle.vme_standings.proofs.boards.requesters.Given as goal

abbrev pub invariant-loop-slot : goal.invariant-loop-slot
invariant-loop-slot l = record {
  accepted : IsAccepted l.plan;
  held : (s : ℕ) → has l.able s ≡ (nat_lt s l.slot && has_requester l.plan s);
}
