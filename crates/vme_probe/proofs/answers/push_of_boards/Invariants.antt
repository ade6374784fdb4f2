use Rattle.std.proofs.Common.{◌≡◌, ◌≤◌, ◌+◌, ◌*◌, ◌++◌}
use Rattle.arrayvec.specs.ArrayVec.{array_vec_len}
use Rattle.vme_probe.specs.Stopped.{board_obstacle, lines_below, ours_below}
use Rattle.vme_probe.proofs.answers.push_of_boards.Given as goal

abbrev pub invariant-loop-slot : goal.invariant-loop-slot
invariant-loop-slot l = record {
  items : l.report.items
      ≡ l.fn.report.items ++ lines_below (board_obstacle l.plan l.probed.version l.before l.change l.boards) l.slot;
  ours : l.is_ours ≡ ours_below (board_obstacle l.plan l.probed.version l.before l.change l.boards) l.slot;
  len : array_vec_len l.report ≤ array_vec_len l.fn.report + 97 * l.slot;
}
