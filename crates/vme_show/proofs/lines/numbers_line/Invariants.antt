use Rattle.std.proofs.Common.{◌≡◌, ◌+◌, ◌++◌, [], length, map}
use Rattle.std.specs.List.{range_with_len}
use Rattle.vme_show.specs.Picture.{label}
use Rattle.vme_show.specs.Columns.{digit_of}
use Rattle.vme_show.proofs.lines.numbers_line.Given as goal

abbrev pub invariant-loop-place : goal.invariant-loop-place
invariant-loop-place l = record {
  items : l.line.items ≡ label [] ++ map (digit_of l.digit) (range_with_len l.first l.place);
  len : length l.line.items ≡ 11 + l.place;
}
