use Rattle.std.proofs.Common.{◌≤◌, ◌+◌, ◌*◌}
use Rattle.arrayvec.specs.ArrayVec.{array_vec_len}
use Rattle.vme_probe.specs.Ends.{AddsComing, next_brs}
use Rattle.vme_probe.proofs.answers.push_next_requests.Given as goal

abbrev pub invariant-loop-level : goal.invariant-loop-level
invariant-loop-level l = record {
  adds : AddsComing l.plan l.probed l.standings (next_brs l.standings l.level) l.fn.report.items l.report.items;
  len : array_vec_len l.report ≤ array_vec_len l.fn.report + 127 * l.level;
}
