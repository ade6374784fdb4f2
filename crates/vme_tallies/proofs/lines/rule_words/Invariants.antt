use Rattle.std.proofs.Common.{◌≡◌, ◌*◌, ◌≤◌, ◌++◌, codes, length}
use Rattle.std.specs.Prelude.{◌==◌, decimal, filter}
use Rattle.std.specs.List.{flat_map}
use Rattle.vme_model.specs.Plan.{up_to}
use Rattle.vme_tallies.specs.Tally.{passed_by}
use Rattle.vme_tallies.specs.Tallied.{OfTally}
use Rattle.vme_tallies.proofs.lines.rule_words.Given as goal

abbrev pub invariant-loop-below : goal.invariant-loop-below
invariant-loop-below l = record {
  words : OfTally l.tally (λ t. l.words.items ≡ flat_map (λ k. codes " G" ++ decimal k) (filter (λ k. passed_by k t == 0) (up_to l.below)));
  room : length l.words.items ≤ 5 * l.below;
}
