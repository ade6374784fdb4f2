use Rattle.std.proofs.Common.{◌≡◌, ℕ, ◌≤◌, ◌<◌, false}
use Rattle.std.specs.Prelude.{nat_lt}
use Rattle.vme_model.specs.Accepted.{namings}
use Rattle.vme_slots.proofs.faults.Draft.slot_twice.Given as goal

abbrev pub invariant-loop-slot : goal.invariant-loop-slot
invariant-loop-slot l = (k : ℕ) → 1 ≤ k → k < l.slot → nat_lt 1 (namings l.self k) ≡ false
