use Rattle.std.proofs.Common.{◌≡◌, ◌+◌, ◌*◌, ◌≤◌, ◌++◌, length, drop}
use Rattle.std.specs.List.{flat_map}
use Rattle.vme_model.specs.Text.{HasWord}
use Rattle.vme_show.specs.Picture.{ink, label, wire_name}
use Rattle.vme_show.specs.Columns.{wire_cells}
use Rattle.vme_show.proofs.lines.wire_line.Given as goal

abbrev pub invariant-loop-column : goal.invariant-loop-column
invariant-loop-column l = record {
  items : HasWord l.wire.wire
      → l.line.items ++ flat_map (ink l.color) (wire_cells l.low l.wire.driver l.wire.wire (drop l.column-index l.columns))
      ≡ label (wire_name l.wire.driver l.wire.wire) ++ flat_map (ink l.color) (wire_cells l.wire.low l.wire.driver l.wire.wire l.columns);
  len : length l.line.items ≤ 11 + 10 * l.column-index;
}
