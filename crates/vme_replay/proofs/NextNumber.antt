-- The digits of a number and of the next one.
use Rattle.std.proofs.Common.{◌≡◌, ℕ, suc, zero, ◌+◌, ◌-◌, ◌*◌, ◌/◌, ◌%◌, ◌^◌, ◌<◌, ◌≤◌, ltb, List, [], ◌∷◌, ◌++◌, length, drop, refl, sym, ◌∙◌, ap, arith, inl, inr, append_assoc, take}
use Rattle.std.proofs.Math.Seq.{drop-append_seam, drop-nil}
use Rattle.std.proofs.lemmas.List.{take_at, take-take}
use Rattle.std.proofs.lemmas.Bool.{cases_Bool}
use Rattle.std.proofs.lemmas.Bool.Decides.{nat_tests}
use Rattle.std.proofs.lemmas.Fmt.{decimal_digit, decimal_step, length-decimal-le}
use Rattle.std.specs.Fmt.{decimal}
use Rattle.vme_replay.specs.Counting.{filler, tens_text, IsSpelled}

drop_sum : (i j : ℕ) (l : List ℕ) → drop i (drop j l) ≡ drop (j + i) l
drop_sum i zero l = let none : 0 + i ≡ i = omega arith in rw none refl
drop_sum i (suc j) [] = drop-nil i ∙ sym (drop-nil (suc j + i))
drop_sum i (suc j) (x ∷ l) = let next : suc j + i ≡ suc (j + i) = omega arith in rw next (drop_sum i j l)

pub tens_are : (n : ℕ) → 0 < n → tens_text n ≡ decimal n
tens_are zero h = absurd (omega arith)
tens_are (suc n) h = refl

-- the tens of a number below 2^64 have at most 19 digits
pub few_tens : (n : ℕ) → n < 10 ^ 19 → length (tens_text n) ≤ 19
few_tens zero h = omega arith
few_tens (suc n) h = length-decimal-le 19 (suc n) (omega arith) h (omega arith)

-- a number is spelled by its tens and its last digit
pub last_digit : (n : ℕ) → n < 2 ^ 64 → decimal n ≡ tens_text (n / 10) ++ (48 + n % 10) ∷ []
last_digit n h =
    elim (cases_Bool (ltb n 10)) [
      | inl q ↦
          let low : n < 10 = grind (arith, nat_tests) in
          let tenth : n / 10 ≡ 0 = omega arith in
          let digit : n % 10 ≡ n = omega arith in
          decimal_digit n low ∙ ap (λ d. (48 + d) ∷ []) (sym digit) ∙ ap (λ q. tens_text q ++ (48 + n % 10) ∷ []) (sym tenth)
      | inr q ↦
          let high : 10 ≤ n = grind (arith, nat_tests) in
          decimal_step n high h ∙ ap (λ l. l ++ (48 + n % 10) ∷ []) (sym (tens_are (n / 10) (omega arith)))
    ]

module _ (tens last first : ℕ) (line : List ℕ) (spelled : IsSpelled tens last first line) where
  -- the rest of the line stands from place 20 on
  pub rest_stands : drop 20 line ≡ filler
  rest_stands =
      ap (λ k. drop k line) (sym spelled.ends) ∙ sym (drop_sum (length (tens_text tens)) first line) ∙ ap (λ l. drop (length (tens_text tens)) l) spelled.is
      ∙ drop-append_seam (tens_text tens) filler

  -- the row of the tens, another last digit and more make the number with these tens and that digit, and more
  pub spelled_with : (digit : ℕ) → 48 ≤ digit → digit < 58 → (n : ℕ) → n ≡ 10 * tens + (last - 48) → 10 * (n / 10) + (digit - 48) < 2 ^ 64 → (old new more : List ℕ)
      → new ≡ old ++ (take (20 - first) (take 24 (drop first line)) ++ (digit ∷ more)) → new ≡ old ++ (decimal (10 * (n / 10) + (digit - 48)) ++ more)
  spelled_with digit least most n view small old new more is =
      let tenth : n / 10 ≡ tens = omega (arith, spelled.least, spelled.most) in
      let m : ℕ = 10 * (n / 10) + (digit - 48) in
      let tens_are : m / 10 ≡ tens = omega (arith, spelled.least, spelled.most) in
      let last_is : 48 + m % 10 ≡ digit = omega arith in
      let many : length (tens_text tens) ≡ 20 - first = omega (arith, spelled.ends) in
      let row : take (20 - first) (take 24 (drop first line)) ≡ tens_text tens =
      take-take (20 - first) 24 (drop first line) (omega arith) ∙ ap (λ l. take (20 - first) l) spelled.is ∙ take_at (tens_text tens) filler (20 - first) many in
      let whole : decimal m ≡ tens_text tens ++ (digit ∷ []) = last_digit m small ∙ ap (λ q. tens_text q ++ (48 + m % 10) ∷ []) tens_are ∙ ap (λ d. tens_text tens ++ d ∷ []) last_is in
      is ∙ ap (λ l. old ++ (l ++ (digit ∷ more))) row ∙ ap (λ l. old ++ l) (sym (append_assoc (tens_text tens) (digit ∷ []) more)) ∙ ap (λ l. old ++ (l ++ more)) (sym whole)
