use Rattle.std.proofs.Common.{◌≡◌, ◌≤◌, ◌+◌, ◌*◌, ◌++◌}
use Rattle.arrayvec.specs.ArrayVec.{array_vec_len}
use Rattle.vme_probe.specs.Ends.{irq_lines}
use Rattle.vme_probe.proofs.answers.push_interrupts.Given as goal

abbrev pub invariant-loop-below : goal.invariant-loop-below
invariant-loop-below l = record {
  items : l.report.items ≡ l.fn.report.items ++ irq_lines l.plan l.standings l.below;
  len : array_vec_len l.report ≤ array_vec_len l.fn.report + 101 * l.below;
}
