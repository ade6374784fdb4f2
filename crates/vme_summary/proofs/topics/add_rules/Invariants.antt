use Rattle.std.proofs.Common.{◌≡◌, ◌+◌, ◌++◌, length}
use Rattle.std.specs.Prelude.{map}
use Rattle.vme_model.specs.Plan.{up_to}
use Rattle.vme_summary.specs.declared.topics.Topic.TheVariants.{Rule}
use Rattle.vme_summary.proofs.topics.add_rules.Given as goal

abbrev pub invariant-loop-below : goal.invariant-loop-below
invariant-loop-below l = record {
  items : l.topics.items ≡ l.fn.topics.items ++ map (λ k. Rule k) (up_to l.below);
  room : length l.topics.items ≡ length l.fn.topics.items + l.below;
}
