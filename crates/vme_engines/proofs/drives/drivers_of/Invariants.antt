use Rattle.std.proofs.Common.{◌≡◌, ◌+◌, ◌≤◌, length}
use Rattle.vme_engines.proofs.DriveRounds.{drivers_to}
use Rattle.vme_engines.proofs.drives.drivers_of.Given as goal

abbrev pub invariant-loop-below : goal.invariant-loop-below
invariant-loop-below l = record {
  list : l.drivers.items ≡ drivers_to l.plan l.below;
  few : length l.drivers.items ≤ l.below + 1;
}
