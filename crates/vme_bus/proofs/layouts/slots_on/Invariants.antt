use Rattle.std.proofs.Common.{◌≡◌, ℕ}
use Rattle.std.specs.Prelude.{◌&&◌, nat_lt}
use Rattle.vme_model.specs.Accepted.{IsAccepted}
use Rattle.vme_bus.specs.Sets.{has}
use Rattle.vme_bus.specs.Layouts.{slot_is_on}
use Rattle.vme_bus.proofs.layouts.slots_on.Given as goal

abbrev pub invariant-loop-slot : goal.invariant-loop-slot
invariant-loop-slot l = record {
  accepted : IsAccepted l.plan;
  held : (s : ℕ) → has l.slots s ≡ (nat_lt s l.slot && slot_is_on l.plan l.line s);
}
