use Rattle.std.proofs.Common.{◌≡◌, ◌≤◌, ◌*◌, length, take}
use Rattle.std.specs.List.{flat_map}
use Rattle.vme_model.specs.Open.{open_edges}
use Rattle.vme_seeds.proofs.opens.append_open.Given as goal

abbrev pub invariant-loop-driver : goal.invariant-loop-driver
invariant-loop-driver l = record {
  listed : l.edges.items ≡ flat_map (open_edges l.bus) (take l.driver-index l.drivers);
  fits : length l.edges.items ≤ 36 * l.driver-index;
}
