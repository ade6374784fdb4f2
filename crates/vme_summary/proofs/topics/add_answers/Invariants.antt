use Rattle.std.proofs.Common.{◌≡◌, ◌+◌, ◌++◌, length}
use Rattle.std.specs.Prelude.{map}
use Rattle.vme_model.specs.Plan.{up_to}
use Rattle.vme_summary.specs.declared.topics.Topic.TheVariants.{Answered}
use Rattle.vme_summary.proofs.topics.add_answers.Given as goal

abbrev pub invariant-loop-below : goal.invariant-loop-below
invariant-loop-below l = record {
  items : l.topics.items ≡ l.fn.topics.items ++ map (λ k. Answered k) (up_to l.below);
  room : length l.topics.items ≡ length l.fn.topics.items + l.below;
}
