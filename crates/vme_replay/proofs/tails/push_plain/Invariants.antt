use Rattle.std.proofs.Common.{◌≡◌, ◌+◌, ◌-◌, ◌*◌, ◌≤◌, ◌++◌, length}
use Rattle.vme_replay.specs.Recorded.{plain_lines}
use Rattle.vme_replay.proofs.tails.push_plain.Given as goal

abbrev pub invariant-lines : goal.invariant-lines
invariant-lines l = record {
  least : 48 ≤ l.digit;
  most : l.digit ≤ 58;
  room : length l.text ≤ length l.fn.text + 64 * (l.digit - 48);
  text : l.text ++ plain_lines (l.count + (l.digit - 48)) (58 - l.digit) ≡ l.fn.text ++ plain_lines l.count 10;
}

abbrev pub decreases-lines : goal.decreases-lines
decreases-lines l = 58 - l.digit
