use Rattle.std.proofs.Common.{◌≡◌, ◌*◌, ◌≤◌, ◌++◌, codes, length, get_or}
use Rattle.std.specs.Prelude.{◌==◌, decimal, filter}
use Rattle.std.specs.List.{flat_map}
use Rattle.vme_model.specs.Plan.{up_to}
use Rattle.vme_summary.proofs.lines.rule_words.Given as goal

abbrev pub invariant-loop-below : goal.invariant-loop-below
invariant-loop-below l = record {
  words : l.words.items ≡ flat_map (λ k. codes " G" ++ decimal k) (filter (λ k. get_or l.passed k 0 == 0) (up_to l.below));
  room : length l.words.items ≤ 5 * l.below;
}
