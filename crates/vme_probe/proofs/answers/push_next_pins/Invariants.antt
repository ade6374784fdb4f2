use Rattle.std.proofs.Common.{◌≤◌, ◌+◌, ◌*◌}
use Rattle.arrayvec.specs.ArrayVec.{array_vec_len}
use Rattle.vme_probe.specs.Ends.{AddsComing, pins_below}
use Rattle.vme_probe.proofs.answers.push_next_pins.Given as goal

abbrev pub invariant-loop-slot : goal.invariant-loop-slot
invariant-loop-slot l = record {
  adds : AddsComing l.plan l.probed l.standings (pins_below l.probes l.chain l.slot) l.fn.report.items l.report.items;
  len : array_vec_len l.report ≤ array_vec_len l.fn.report + 127 * l.slot;
}
