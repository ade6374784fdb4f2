use Rattle.std.proofs.Common.{◌≡◌, ◌+◌, ◌≤◌, length}
use Rattle.vme_slots.proofs.Drivers.{drivers_to}
use Rattle.vme_slots.proofs.plans.Plan.drivers.Given as goal

abbrev pub invariant-loop-below : goal.invariant-loop-below
invariant-loop-below l = record {
  list : l.drivers.items ≡ drivers_to l.self l.below;
  few : length l.drivers.items ≤ l.below + 1;
}
