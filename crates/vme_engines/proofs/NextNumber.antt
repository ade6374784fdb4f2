-- The digits of a number and of the next one.
use Rattle.std.proofs.Common.{◌≡◌, ℕ, suc, zero, ◌+◌, ◌/◌, ◌%◌, ◌^◌, ◌<◌, ◌≤◌, ltb, List, [], ◌∷◌, ◌++◌, length, drop, get_or, refl, sym, ◌∙◌, ap, arith, inl, inr, append_assoc, length-append, length-drop}
use Rattle.std.proofs.Math.ListN.{set}
use Rattle.std.proofs.Math.Seq.{get_or-append_seam, set-append_seam, drop-append_seam, drop-nil}
use Rattle.std.proofs.lemmas.List.{get_or-drop, drop-set-add}
use Rattle.std.proofs.lemmas.Bool.{cases_Bool}
use Rattle.std.proofs.lemmas.Bool.Decides.{nat_tests}
use Rattle.std.proofs.lemmas.Fmt.{decimal_digit, decimal_step}
use Rattle.std.specs.Fmt.{decimal}
use Rattle.vme_engines.specs.Counting.{filler, IsSpelled}

drop_sum : (i j : ℕ) (l : List ℕ) → drop i (drop j l) ≡ drop (j + i) l
drop_sum i zero l = let none : 0 + i ≡ i = omega arith in rw none refl
drop_sum i (suc j) [] = drop-nil i ∙ sym (drop-nil (suc j + i))
drop_sum i (suc j) (x ∷ l) = let next : suc j + i ≡ suc (j + i) = omega arith in rw next (drop_sum i j l)

-- what stands before a number's last digit, where q is a tenth of the number
abbrev front : ℕ → List ℕ
front zero = []
front (suc q) = decimal (suc q)

front_is : (q : ℕ) → 0 < q → front q ≡ decimal q
front_is zero h = absurd (omega arith)
front_is (suc q) h = refl

last_digit : (n : ℕ) → n < 2 ^ 64 → decimal n ≡ front (n / 10) ++ (48 + n % 10) ∷ []
last_digit n h =
    elim (cases_Bool (ltb n 10)) [
      | inl q ↦
          let low : n < 10 = grind (arith, nat_tests) in
          let tenth : n / 10 ≡ 0 = omega arith in
          let digit : n % 10 ≡ n = omega arith in
          decimal_digit n low ∙ ap (λ d. (48 + d) ∷ []) (sym digit) ∙ ap (λ q. front q ++ (48 + n % 10) ∷ []) (sym tenth)
      | inr q ↦
          let high : 10 ≤ n = grind (arith, nat_tests) in
          decimal_step n high h ∙ ap (λ l. l ++ (48 + n % 10) ∷ []) (sym (front_is (n / 10) (omega arith)))
    ]

next_digit : (n : ℕ) → n + 1 < 2 ^ 64 → n % 10 < 9 → decimal (n + 1) ≡ front (n / 10) ++ (48 + (n % 10 + 1)) ∷ []
next_digit n h low =
    let tenth : (n + 1) / 10 ≡ n / 10 = omega arith in
    let digit : (n + 1) % 10 ≡ n % 10 + 1 = omega arith in
    last_digit (n + 1) h ∙ ap (λ q. front q ++ (48 + (n + 1) % 10) ∷ []) tenth ∙ ap (λ d. front (n / 10) ++ (48 + d) ∷ []) digit

module _ (n first : ℕ) (line : List ℕ) (small : n + 1 < 2 ^ 64) (spelled : IsSpelled n first line) where
  -- the rest of the line stands from place 20 on
  pub rest_stands : drop 20 line ≡ filler
  rest_stands =
      ap (λ k. drop k line) (sym spelled.ends) ∙ sym (drop_sum (length (decimal n)) first line) ∙ ap (λ l. drop (length (decimal n)) l) spelled.is
      ∙ drop-append_seam (decimal n) filler

  pub long_enough : 20 ≤ length line
  long_enough = let e = ap length spelled.is in omega (arith, spelled.ends, simp (length-drop, length-append) at e)

  -- the last digit is counted up
  pub digit_counted : get_or line 19 0 < 57 → IsSpelled (n + 1) first (set line 19 (get_or line 19 0 + 1))
  digit_counted below =
      let f : List ℕ = front (n / 10) in
      let d : ℕ = 48 + n % 10 in
      let e : decimal n ≡ f ++ d ∷ [] = last_digit n (omega arith) in
      let len : length (decimal n) ≡ length f + 1 = ap length e ∙ length-append f (d ∷ []) in
      let at : 19 ≡ first + length f = omega (arith, spelled.ends, len) in
      let row : drop first line ≡ f ++ d ∷ filler = spelled.is ∙ ap (λ l. l ++ filler) e ∙ append_assoc f (d ∷ []) filler in
      let read : get_or line 19 0 ≡ d =
      ap (λ k. get_or line k 0) at ∙ sym (get_or-drop first line (length f) 0) ∙ ap (λ l. get_or l (length f) 0) row ∙ get_or-append_seam f d filler 0 in
      let next : decimal (n + 1) ≡ f ++ (48 + (n % 10 + 1)) ∷ [] = next_digit n small (omega (arith, read, below)) in
      let value : get_or line 19 0 + 1 ≡ 48 + (n % 10 + 1) = omega (arith, read) in
      let v : ℕ = get_or line 19 0 + 1 in
      record {
        ends = let longer : length (decimal (n + 1)) ≡ length f + 1 = ap length next ∙ length-append f ((48 + (n % 10 + 1)) ∷ []) in omega (arith, spelled.ends, len, longer);
        is =
            ap (λ k. drop first (set line k v)) at ∙ drop-set-add first line (length f) v ∙ ap (λ l. set l (length f) v) row ∙ set-append_seam f d filler v
            ∙ ap (λ x. f ++ x ∷ filler) value ∙ sym (ap (λ l. l ++ filler) next ∙ append_assoc f ((48 + (n % 10 + 1)) ∷ []) filler);
      }

  -- the digits are written anew
  pub digits_written : (first' : ℕ) (line' : List ℕ) → first' + length (decimal (n + 1)) ≡ 20 → drop first' line' ≡ decimal (n + 1) ++ drop 20 line → IsSpelled (n + 1) first' line'
  digits_written first' line' ends written = record { ends = ends; is = written ∙ ap (λ l. decimal (n + 1) ++ l) rest_stands }
