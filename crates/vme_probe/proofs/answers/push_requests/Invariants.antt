use Rattle.std.proofs.Common.{◌≡◌, ◌≤◌, ◌+◌, ◌*◌, ◌++◌}
use Rattle.arrayvec.specs.ArrayVec.{array_vec_len}
use Rattle.vme_probe.specs.Ends.{br_lines}
use Rattle.vme_probe.proofs.answers.push_requests.Given as goal

abbrev pub invariant-loop-level : goal.invariant-loop-level
invariant-loop-level l = record {
  items : l.report.items ≡ l.fn.report.items ++ br_lines l.plan l.standings l.level;
  len : array_vec_len l.report ≤ array_vec_len l.fn.report + 101 * l.level;
}
