use Rattle.std.proofs.Common.{◌≡◌, ℕ}
use Rattle.std.specs.Prelude.{◌&&◌, nat_lt}
use Rattle.vme_model.specs.Accepted.{IsAccepted}
use Rattle.vme_bus.specs.Sets.{has}
use Rattle.vme_seeds.specs.Kinds.{has_board}
use Rattle.vme_seeds.proofs.boards.boards_of.Given as goal

abbrev pub invariant-loop-slot : goal.invariant-loop-slot
invariant-loop-slot l = record {
  accepted : IsAccepted l.plan;
  held : (s : ℕ) → has l.boards s ≡ (nat_lt s l.slot && has_board l.plan s);
}
