use Rattle.std.proofs.Common.{◌≡◌, ◌<◌, ◌^◌, ℕ, get_or, length}
use Rattle.vme_seeds.specs.Numbers.{after_words, word, scaled}
use Rattle.vme_seeds.proofs.weights.Weights.draw.Given as goal

abbrev pub invariant-loop-place : goal.invariant-loop-place
invariant-loop-place l = record {
  long : length l.by_kind ≡ 28;
  weights : (n : ℕ) → n < l.place → get_or l.by_kind n 0 ≡ 4 ^ scaled (word (after_words n l.fn.numbers)) 4;
  numbers : l.numbers ≡ after_words l.place l.fn.numbers;
}
