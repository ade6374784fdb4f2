use Rattle.std.proofs.Common.{◌≡◌, ◌≤◌, ◌+◌, ◌*◌}
use Rattle.arrayvec.specs.ArrayVec.{array_vec_len}
use Rattle.vme_bus.specs.Sets.{has}
use Rattle.vme_probe.specs.Lines.{places_below}
use Rattle.vme_probe.proofs.lines.push_places.Given as goal

abbrev pub invariant-loop-slot : goal.invariant-loop-slot
invariant-loop-slot l = record {
  items : l.places.items ≡ places_below l.fn.places.items l.level (has l.boards) l.slot;
  len : array_vec_len l.places ≤ array_vec_len l.fn.places + 14 * l.slot;
}
