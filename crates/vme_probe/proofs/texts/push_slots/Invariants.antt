use Rattle.std.proofs.Common.{◌≡◌, ◌≤◌, ◌+◌, ◌*◌, ◌++◌}
use Rattle.arrayvec.specs.ArrayVec.{array_vec_len}
use Rattle.vme_bus.specs.Sets.{has}
use Rattle.vme_probe.specs.Lines.{slots_below}
use Rattle.vme_probe.proofs.texts.push_slots.Given as goal

abbrev pub invariant-loop-slot : goal.invariant-loop-slot
invariant-loop-slot g l = record {
  items : l.line.items ≡ l.fn.line.items ++ slots_below (has l.slots) l.slot;
  len : array_vec_len l.line ≤ array_vec_len l.fn.line + 4 * l.slot;
}
