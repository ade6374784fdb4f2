use Rattle.std.proofs.Common.{◌∷◌, ◌≤◌, length, arith}
use Rattle.vme_moments.proofs.Whole.{goes_on}
use Rattle.vme_moments.proofs.laws.what_comes_next_is_refused.Goals as goal

pub returns : goal.returns
returns c = record {
  some = λ version p x ms places ordered few longest.
      goes_on x ms places ordered few longest.legal.begins;
  refused = λ version p x ms places place longest legal.
      (let more : length (place ∷ places) ≤ length places = longest.longest (place ∷ places) legal in
      absurd (omega arith));
}
