use Rattle.std.proofs.Common.{◌≡◌, ◌*◌, ◌≤◌, length, take}
use Rattle.std.specs.List.{flat_map}
use Rattle.vme_show.specs.Columns.{wires_of}
use Rattle.vme_show.proofs.wires.plan_wires.Given as goal

abbrev pub invariant-loop-driver : goal.invariant-loop-driver
invariant-loop-driver l = record {
  items : l.found.items ≡ flat_map (wires_of l.bus) (take l.driver-index l.driver-items);
  len : length l.found.items ≤ 9 * l.driver-index;
}
