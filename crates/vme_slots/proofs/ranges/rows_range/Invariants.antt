use Rattle.std.proofs.Common.{◌≡◌, drop, map}
use Rattle.vme_model.specs.Accepted.{first_of, row_range}
use Rattle.vme_slots.proofs.ranges.rows_range.Given as goal

abbrev pub invariant-loop-row : goal.invariant-loop-row
invariant-loop-row l = first_of (map (row_range l.slots) l.rows) ≡ first_of (map (row_range l.slots) (drop l.row-index l.rows))
