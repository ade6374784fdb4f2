use Rattle.std.proofs.Common.{◌≡◌, drop, option_map}
use Rattle.std.specs.Prelude.{fold}
use Rattle.toml.specs.View.{view, items_view}
use Rattle.vme_model.specs.Sets.{with_chain}
use Rattle.vme_scenario.specs.Values as spec
use Rattle.vme_scenario.proofs.values.chains.Given as goal

abbrev pub invariant-loop-item : goal.invariant-loop-item
invariant-loop-item l =
    option_map (fold with_chain l.chains) (spec.each_item spec.chain (items_view (drop l.item-index l.item-items))) ≡ spec.chains (view l.value)
