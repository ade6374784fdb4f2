-- The words of a generator, one after another.
use Rattle.std.proofs.Common.{◌≡◌, ◌∙◌, refl, sym, ap, ℕ, zero, suc, ◌+◌, add-one}
use Rattle.rand_pcg.specs.Lcg.{Lcg, next, next_state, state_after}
use Rattle.rand_pcg.specs.Pcg.{multiplier_64}
use Rattle.rand_pcg.proofs.LcgLemmas.{advance_zero}
use Rattle.vme_seeds.specs.Numbers.{after_words}

state_after_more : (w m p n s : ℕ) → next_state w m p (state_after w m p n s) ≡ state_after w m p (suc n) s
unfolding state_after
state_after_more w m p zero s = refl
state_after_more w m p (suc n) s = state_after_more w m p n (next_state w m p s)

-- the next word is one word more
pub one_word_more : (n : ℕ) (g : Lcg) → next 64 multiplier_64 (after_words n g) ≡ after_words (n + 1) g
one_word_more n g =
    ap (λ (s : ℕ). (let r : Lcg = record { state = s; increment = g.increment } in r)) (state_after_more 64 multiplier_64 g.increment n g.state)
    ∙ sym (ap (λ k. after_words k g) (add-one n))

-- the first two
pub one_word : (g : Lcg) → next 64 multiplier_64 g ≡ after_words 1 g
one_word g = ap (next 64 multiplier_64) (sym (advance_zero 64 multiplier_64 g)) ∙ one_word_more 0 g

pub two_words : (g : Lcg) → next 64 multiplier_64 (next 64 multiplier_64 g) ≡ after_words 2 g
two_words g = ap (next 64 multiplier_64) (one_word g) ∙ one_word_more 1 g
