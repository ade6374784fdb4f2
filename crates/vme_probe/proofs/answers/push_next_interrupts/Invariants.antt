use Rattle.std.proofs.Common.{◌≤◌, ◌+◌, ◌*◌}
use Rattle.arrayvec.specs.ArrayVec.{array_vec_len}
use Rattle.vme_probe.specs.Ends.{AddsComing, next_irqs}
use Rattle.vme_probe.proofs.answers.push_next_interrupts.Given as goal

abbrev pub invariant-loop-below : goal.invariant-loop-below
invariant-loop-below l = record {
  adds : AddsComing l.plan l.probed l.standings (next_irqs l.standings l.below) l.fn.report.items l.report.items;
  len : array_vec_len l.report ≤ array_vec_len l.fn.report + 127 * l.below;
}
