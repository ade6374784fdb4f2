use Rattle.std.proofs.Common.{◌≡◌, ◌+◌, ◌*◌, ◌%◌, ◌≤◌, ◌++◌, length, drop, map}
use Rattle.vme_bus.specs.Answers.{answer_of}
use Rattle.vme_replay.specs.Recorded.{answer_lines}
use Rattle.vme_replay.proofs.lines.push_lines.Given as goal

abbrev pub invariant-loop-found : goal.invariant-loop-found
invariant-loop-found l = record {
  digit : l.digit ≡ 48 + l.count % 10 + l.found-index;
  room : length l.text ≤ length l.fn.text + 64 * l.found-index;
  text : l.text ++ answer_lines (l.count + l.found-index) (map answer_of (drop l.found-index l.records)) ≡ l.fn.text ++ answer_lines l.count (map answer_of l.records);
}
