-- The first byte that passes.
use Rattle.std.proofs.Common.{◌≡◌, ◌≤◌, ℕ, Bool, true, false, List, Option, Some, None, length, get_or, unwrap_or, sym, arith, inl, inr}
use Rattle.std.specs.List.{position_or_len}
use Rattle.std.proofs.lemmas.Bool.{cases_Bool}
use Rattle.std.proofs.lemmas.List.Sums.{position_or_len_is}
use Rattle.memchr.specs.Find.{IsFirstByte}

not_true : (b : Bool) → (b ≡ true → ⊥) → b ≡ false
not_true b h = elim (cases_Bool b) [ inl q ↦ absurd (h q) | inr q ↦ q ]

pub first_is : (t : ℕ → Bool) (xs : List ℕ) (r : Option ℕ) → IsFirstByte t xs r → unwrap_or r (length xs) ≡ position_or_len t xs
first_is t xs None h =
    sym (position_or_len_is t xs (length xs) 0 (omega arith) (λ k lt. not_true (t (get_or xs k 0)) (h k (omega arith) lt)) (λ lt. absurd (omega arith)))
first_is t xs (Some k) h =
    sym (position_or_len_is t xs k 0 (let l = h.0.high in omega arith) (λ j lt. not_true (t (get_or xs j 0)) (h.0.before j (omega arith) lt)) (λ lt. h.1))

pub first_within : (t : ℕ → Bool) (xs : List ℕ) (r : Option ℕ) → IsFirstByte t xs r → unwrap_or r (length xs) ≤ length xs
first_within t xs None h = omega arith
first_within t xs (Some k) h = let l = h.0.high in omega arith
