-- A test of the slots below another.
use Rattle.std.proofs.Common.{◌≡◌, ◌&&◌, ◌+◌, ◌<◌, ◌≤◌, ◌++◌, ◌∷◌, [], ℕ, zero, suc, Bool, true, false, List, leb, refl, sym, ◌∙◌, ap, arith, inl, inr}
use Rattle.std.specs.List.{list_all}
use Rattle.std.proofs.lemmas.Bool.{cases_Bool}
use Rattle.std.proofs.lemmas.Bool.Decides.{nat_tests}
use Rattle.vme_model.specs.Plan.{up_to}

all_one_more : (t : ℕ → Bool) (xs : List ℕ) (x : ℕ) → list_all t (xs ++ x ∷ []) ≡ (list_all t xs && t x)
all_one_more t [] x = last (t x)
  where
    last : (b : Bool) → (b && true) ≡ b
    last true = refl
    last false = refl
all_one_more t (y ∷ xs) x = ap (λ b. t y && b) (all_one_more t xs x) ∙ assoc (t y) (list_all t xs) (t x)
  where
    assoc : (a b c : Bool) → (a && (b && c)) ≡ ((a && b) && c)
    assoc true b c = refl
    assoc false b c = refl

pub all_below : (t : ℕ → Bool) (n : ℕ) → ((k : ℕ) → 1 ≤ k → k ≤ n → t k ≡ true) → list_all t (up_to n) ≡ true
all_below t zero h = refl
all_below t (suc n) h =
    all_one_more t (up_to n) (suc n)
    ∙ rw (all_below t n (λ k low high. h k low (omega arith)), h (suc n) (omega arith) (omega arith)) refl

pub some_below : (t : ℕ → Bool) (n s : ℕ) → 1 ≤ s → s ≤ n → t s ≡ false → list_all t (up_to n) ≡ false
some_below t zero s low high fails = absurd (omega arith)
some_below t (suc n) s low high fails =
    elim (cases_Bool (leb s n)) [
      | inl q ↦
          let l : s ≤ n = grind (arith, nat_tests) in
          all_one_more t (up_to n) (suc n) ∙ rw (some_below t n s low l fails) refl
      | inr q ↦
          let e : s ≡ suc n = grind (arith, nat_tests) in
          all_one_more t (up_to n) (suc n) ∙ ap (λ b. list_all t (up_to n) && b) (ap t (sym e) ∙ fails) ∙ none (list_all t (up_to n))
    ]
  where
    none : (b : Bool) → (b && false) ≡ false
    none true = refl
    none false = refl

pub next_below : (t : ℕ → Bool) (s : ℕ) → ((k : ℕ) → 1 ≤ k → k < s → t k ≡ true) → t s ≡ true → (k : ℕ) → 1 ≤ k → k < s + 1 → t k ≡ true
next_below t s h here k low high =
    elim (cases_Bool (leb (k + 1) s)) [
      | inl q ↦ h k low (grind (arith, nat_tests))
      | inr q ↦ let e : s ≡ k = grind (arith, nat_tests) in ap t (sym e) ∙ here
    ]
