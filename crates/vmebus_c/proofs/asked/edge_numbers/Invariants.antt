use Rattle.std.proofs.Common.{◌≡◌, map, take}
use Rattle.vmebus_c.specs.Numbers.{edge_number}
use Rattle.vmebus_c.proofs.asked.edge_numbers.Given as goal

abbrev pub invariant-loop-edge : goal.invariant-loop-edge
invariant-loop-edge l = l.numbers.items ≡ map edge_number (take l.edge-index l.edges)
