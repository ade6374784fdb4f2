use Rattle.std.proofs.Common.{◌≡◌, ◌++◌, drop, option_map}
use Rattle.toml.specs.Data.{as_table}
use Rattle.toml.specs.View.{view, items_view}
use Rattle.vme_scenario.specs.Borrowed.{table_views}
use Rattle.vme_scenario.specs.Values as values
use Rattle.vme_scenario.proofs.arrays.tables.Given as goal

abbrev pub invariant-loop-item : goal.invariant-loop-item
invariant-loop-item l =
    option_map (λ rest. table_views l.tables.items ++ rest) (values.each_item as_table (items_view (drop l.item-index l.item-items)))
    ≡ values.tables (view l.value)
