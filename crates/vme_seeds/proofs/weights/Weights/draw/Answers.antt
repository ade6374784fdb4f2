use Rattle.std.proofs.Common.{◌≡◌, ◌∙◌, sym, ap, subst, refl, ℕ, ◌<◌, ◌+◌, ◌^◌, get_or, slice_set, arith, rules}
use Rattle.std.proofs.lemmas.List.Edits.{fill_by_more}
use Rattle.rand_pcg.specs.Pcg.{multiplier_64}
use Rattle.rand_pcg.specs.Lcg.{Lcg, next}
use Rattle.rand_pcg.proofs.LcgLemmas.{advance_zero}
use Rattle.vme_seeds.specs.Numbers.{after_words, word, scaled}
use Rattle.vme_seeds.specs.Kinds.{number}
use Rattle.vme_seeds.proofs.KindOrder.{number_below}
use Rattle.vme_seeds.proofs.Words.{one_word_more}
use Rattle.vme_seeds.proofs.weights.Weights.draw.Goals as goal

pub loop-place-init : goal.loop-place-init
loop-place-init c = record {
  long = refl;
  weights = λ n below. absurd (omega (arith, below));
  numbers = sym (advance_zero 64 multiplier_64 c.args.numbers.now);
}

pub loop-place-preserved : goal.loop-place-preserved
loop-place-preserved c =
    let g = c.args.numbers.now in
    let i = c.loop-place.place in
    let drawn : c.next_word.result ≡ word (after_words i g) = ap (λ (x : ℕ × Lcg). x.0) c.next_word.ensures ∙ ap word c.loop-place.invariant.numbers in
    let weighed : c.weight.result ≡ 4 ^ scaled (word (after_words i g)) 4 = c.weight.ensures ∙ ap (λ w. 4 ^ scaled w 4) drawn in
    record {
      long = search rules;
      weights =
          subst (λ (v : ℕ). (k : ℕ) → k < i + 1 → get_or (slice_set c.loop-place.by_kind i v) k 0 ≡ 4 ^ scaled (word (after_words k g)) 4) (sym weighed)
          (fill_by_more (λ n. 4 ^ scaled (word (after_words n g)) 4) c.loop-place.by_kind i 0 (omega (arith, c.loop-place-test.true, c.loop-place.invariant.long)) c.loop-place.invariant.weights);
      numbers = ap (λ (x : ℕ × Lcg). x.1) c.next_word.ensures ∙ ap (next 64 multiplier_64) c.loop-place.invariant.numbers ∙ one_word_more i g;
    }

pub returns-clause-weights : goal.returns-clause-weights
returns-clause-weights c = λ k. c.loop-place.invariant.weights (number k) (omega (arith, number_below k, c.loop-place-test.false))
