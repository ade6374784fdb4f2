use Rattle.std.proofs.Common.{◌≡◌, ◌+◌, ◌++◌, length, map}
use Rattle.vme_bus.specs.Answers.{answer_of}
use Rattle.vme_replay.specs.Recorded.{answer_lines}
use Rattle.vme_reading.specs.Texts.{HandsOn}
use Rattle.vme_replay.proofs.lines.write_lines.Given as goal

abbrev pub invariant-loop-rest : goal.invariant-loop-rest
invariant-loop-rest g l = record {
  number : l.count + length l.rest ≡ l.fn.count + length l.records;
  run : HandsOn (g.W.Write.contents l.fn.out) (g.W.Write.contents l.out) (l.fn.text ++ answer_lines l.fn.count (map answer_of l.records)) (l.text ++ answer_lines l.count (map answer_of l.rest));
}

abbrev pub decreases-loop-rest : goal.decreases-loop-rest
decreases-loop-rest g l = length l.rest
