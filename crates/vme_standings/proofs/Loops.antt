-- One slot more in a loop over slots: `Interrupters::slots` and its like.
use Rattle.std.proofs.Common.{◌≡◌, ◌≢◌, ◌∙◌, refl, sym, ap, ℕ, Bool, true, false, ◌+◌, arith}
use Rattle.std.specs.Prelude.{◌==◌, ◌&&◌, nat_lt}
use Rattle.std.proofs.lemmas.Bool.Decides.{nat_tests}
use Rattle.vme_standings.proofs.Tests.{both, never}

lt_next : (s k : ℕ) → (s == k) ≡ false → nat_lt s k ≡ nat_lt s (k + 1)
lt_next s k e = grind (arith, nat_tests)

lt_here : (s k : ℕ) → (s == k) ≡ true → nat_lt s (k + 1) ≡ true
lt_here s k e = grind (arith, nat_tests)

same_number : (s k : ℕ) → (s == k) ≡ true → s ≡ k
same_number s k e = grind (arith, nat_tests)

same_test : (s k : ℕ) → s ≡ k → (s == k) ≡ true
same_test s k e = grind (arith, nat_tests)

off_there : (f : ℕ → Bool) (s k : ℕ) → f k ≡ false → (s == k) ≡ true → (nat_lt s k && f s) ≡ (nat_lt s (k + 1) && f s)
off_there f s k off is = no (nat_lt s k) ∙ sym (no (nat_lt s (k + 1)))
  where
    fails : f s ≡ false
    fails = ap f (same_number s k is) ∙ off

    and_false : (a b : Bool) → b ≡ false → (a && b) ≡ false
    and_false a b e = grind arith

    no : (a : Bool) → (a && f s) ≡ false
    no a = and_false a (f s) fails

-- a set of the slots below k for which a test holds, with k, for which it holds
pub one_more : (f old new : ℕ → Bool) (k : ℕ) → ((s : ℕ) → old s ≡ (nat_lt s k && f s)) → f k ≡ true → new k ≡ true → ((s : ℕ) → s ≢ k → new s ≡ old s)
    → (s : ℕ) → new s ≡ (nat_lt s (k + 1) && f s)
one_more f old new k held on here others s = by_test (s == k) refl
  where
    by_test : (b : Bool) → (s == k) ≡ b → new s ≡ (nat_lt s (k + 1) && f s)
    by_test true is = ap new (same_number s k is) ∙ here ∙ sym (both (nat_lt s (k + 1)) (f s) (lt_here s k is) (ap f (same_number s k is) ∙ on))
    by_test false is = others s (λ same. never (s == k) (same_test s k same) is) ∙ held s ∙ ap (λ b. b && f s) (lt_next s k is)

-- and the same set, if it does not hold for k
pub none_more : (f old : ℕ → Bool) (k : ℕ) → ((s : ℕ) → old s ≡ (nat_lt s k && f s)) → f k ≡ false → (s : ℕ) → old s ≡ (nat_lt s (k + 1) && f s)
none_more f old k held off s = held s ∙ by_test (s == k) refl
  where
    by_test : (b : Bool) → (s == k) ≡ b → (nat_lt s k && f s) ≡ (nat_lt s (k + 1) && f s)
    by_test true is = off_there f s k off is
    by_test false is = ap (λ b. b && f s) (lt_next s k is)
