use Rattle.std.proofs.Common.{◌≡◌, drop, option_map}
use Rattle.std.specs.Prelude.{fold}
use Rattle.toml.specs.View.{view, items_view}
use Rattle.vme_model.specs.Sets.{with_level}
use Rattle.vme_scenario.specs.Values as spec
use Rattle.vme_scenario.proofs.values.levels.Given as goal

abbrev pub invariant-loop-item : goal.invariant-loop-item
invariant-loop-item l =
    option_map (fold with_level l.levels) (spec.each_item spec.level (items_view (drop l.item-index l.item-items))) ≡ spec.levels (view l.value)
