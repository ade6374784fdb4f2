use Rattle.std.proofs.Common.{◌≡◌, ◌+◌, ◌*◌, ◌≤◌, ◌++◌, length, map, take}
use Rattle.std.specs.List.{flat_map}
use Rattle.vme_show.specs.Picture.{ink, label}
use Rattle.vme_show.specs.Columns.{cell, topic_name}
use Rattle.vme_show.proofs.lines.topic_line.Given as goal

abbrev pub invariant-loop-column : goal.invariant-loop-column
invariant-loop-column l = record {
  items : l.line.items ≡ label (topic_name l.topic) ++ flat_map (ink l.color) (map (cell l.topic) (take l.column-index l.columns));
  len : length l.line.items ≤ 11 + 10 * l.column-index;
}
