use Rattle.std.proofs.Common.{◌≡◌, ◌+◌, drop, codes}
use Rattle.vme_scenario.specs.Borrowed.{table_views}
use Rattle.vme_scenario.specs.Format as format
use Rattle.vme_scenario.proofs.ArrayTables.{behind}
use Rattle.vme_scenario.proofs.arrays.boards.Given as goal

abbrev pub invariant-loop-index : goal.invariant-loop-index
invariant-loop-index l =
    behind l.rows.items (format.each (codes "board") format.board (l.index + 1) (table_views (drop l.index l.tables)))
    ≡ format.each (codes "board") format.board 1 (table_views l.tables)
