use Rattle.std.proofs.Common.{◌≡◌, ◌+◌, map, drop, codes}
use Rattle.toml.specs.View.{table_view}
use Rattle.vme_scenario.specs.Format as format
use Rattle.vme_scenario.proofs.Each.{behind}
use Rattle.vme_scenario.proofs.arrays.jumpers.Given as goal

abbrev pub invariant-loop-index : goal.invariant-loop-index
invariant-loop-index l =
    behind l.jumpers.items (format.each (codes "jumper") format.jumper (l.index + 1) (map (λ t. table_view t.now) (drop l.index l.tables)))
    ≡ format.each (codes "jumper") format.jumper 1 (map (λ t. table_view t.now) l.tables)
