use Rattle.std.proofs.Common.{◌≡◌, ◌≤◌, ◌+◌, take, length}
use Rattle.std.specs.List.{flat_map}
use Rattle.vme_model.specs.Offers.{wires, considered}
use Rattle.vme_backplane.specs.Looks.{history_of}
use Rattle.vme_backplane.proofs.looks.Look.all_considered.Given as goal

abbrev pub invariant-loop-wire : goal.invariant-loop-wire
invariant-loop-wire l = record {
  edges : l.edges.items ≡ flat_map (considered l.self.plan.now (history_of l.self) l.self.driver) (take l.wire-index (wires l.self.driver));
  few : length l.edges.items ≤ l.wire-index + l.wire-index;
}
