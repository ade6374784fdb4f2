use Rattle.std.proofs.Common.{◌≡◌, ◌<◌, ℕ, get_or, length}
use Rattle.vme_seeds.specs.Choices.{chance}
use Rattle.vme_seeds.proofs.chances.Chances.new.Given as goal

abbrev pub invariant-loop-place : goal.invariant-loop-place
invariant-loop-place l = record {
  long : length l.by_kind ≡ 28;
  each : (n : ℕ) → n < l.place
      → get_or l.by_kind n 0 ≡ chance (get_or l.weights.by_kind n 0) (get_or l.made.counts n 0) (get_or l.ready.counts n 0);
}
