use Rattle.std.proofs.Common.{◌≡◌, ℕ}
use Rattle.std.specs.Prelude.{◌&&◌, is_some, nat_lt}
use Rattle.vme_model.specs.Accepted.{IsAccepted}
use Rattle.vme_model.specs.Plan.{board}
use Rattle.vme_bus.specs.Sets.{has}
use Rattle.vme_standings.proofs.boards.boards.Given as goal

abbrev pub invariant-loop-slot : goal.invariant-loop-slot
invariant-loop-slot l = record {
  accepted : IsAccepted l.plan;
  held : (s : ℕ) → has l.found s ≡ (nat_lt s l.slot && is_some (board l.plan s));
}
