use Rattle.std.proofs.Common.{◌≡◌, ◌≤◌, ◌+◌, take, length}
use Rattle.std.specs.List.{flat_map}
use Rattle.vme_model.specs.Offers.{wires}
use Rattle.vme_wiring.specs.Considered.{considered_by}
use Rattle.vme_wiring.proofs.wirings.Wiring.collected.Given as goal

abbrev pub invariant-loop-wire : goal.invariant-loop-wire
invariant-loop-wire l = record {
  edges : l.edges.items ≡ flat_map (considered_by l.self l.fn.driver) (take l.wire-index (wires l.fn.driver));
  few : length l.edges.items ≤ l.wire-index + l.wire-index;
}
