-- Waits and holds, and what an edge adds to them: they don't overlap.
use Rattle.std.proofs.Common.{◌≡◌, ◌∙◌, refl, sym, ap, ℕ, ◌+◌, ◌<◌, ◌≤◌, ◌^◌, Bool, true, false, List, [], ◌∷◌, ◌++◌, length, sum, Option, Some, None, arith}
use Rattle.std.specs.Prelude.{max, if◌then◌else◌}
use Rattle.std.proofs.lemmas.List.Sums.{sum_by-append}
use Rattle.vme_summary.specs.Tally.{Answered, Answers, last_begun, spanned, spans, greatest}
use Rattle.vme_summary.specs.Tallied.{more, span}

-- so many edges are spanned, before the edge that began last, or before the end
pub record IsApart (since : Answers → Option ℕ) (closes : Answered → Bool) (t : Answers) : Type 0 where
  pub all : sum (spans since closes t) ≤ length t
  pub begun : (m : ℕ) → since t ≡ Some m → sum (spans since closes t) ≤ m

sum_spanned : (n : ℕ) (o : Option ℕ) → sum (spanned n o) ≡ span n o
sum_spanned n None = refl
sum_spanned n (Some m) = omega arith

greatest_spanned : (n : ℕ) (o : Option ℕ) (ns : List ℕ) → greatest (spanned n o ++ ns) ≡ max (greatest ns) (span n o)
greatest_spanned n None ns = omega arith
greatest_spanned n (Some m) ns = omega arith

some_is : (m n : ℕ) → Some m ≡ Some n → m ≡ n
some_is m n e = cc

some_none : (m : ℕ) → None ≡ Some m → ⊥
some_none m e = cc

module _ (since : Answers → Option ℕ) (closes : Answered → Bool) (a : Answered) (t : Answers) where
  -- the sum, and the greatest, where an edge closes something
  pub sum_closed : closes a ≡ true → sum (spans since closes (a ∷ t)) ≡ span (length (a ∷ t)) (since t) + sum (spans since closes t)
  sum_closed c =
      ap (λ (b : Bool). sum ((if b then spanned (length (a ∷ t)) (since t) else []) ++ spans since closes t)) c
      ∙ sum_by-append (λ x. x) (spanned (length (a ∷ t)) (since t)) (spans since closes t)
      ∙ ap (λ x. x + sum (spans since closes t)) (sum_spanned (length (a ∷ t)) (since t))

  pub greatest_closed : closes a ≡ true → greatest (spans since closes (a ∷ t)) ≡ max (greatest (spans since closes t)) (span (length (a ∷ t)) (since t))
  greatest_closed c =
      ap (λ (b : Bool). greatest ((if b then spanned (length (a ∷ t)) (since t) else []) ++ spans since closes t)) c
      ∙ greatest_spanned (length (a ∷ t)) (since t) (spans since closes t)

  -- and where it doesn't
  pub not_closed : closes a ≡ false → spans since closes (a ∷ t) ≡ spans since closes t
  not_closed c = ap (λ (b : Bool). (if b then spanned (length (a ∷ t)) (since t) else []) ++ spans since closes t) c

-- what closes ends, and does not begin
module _ (begins ends closes : Answered → Bool) (ending : (a : Answered) → closes a ≡ true → (begins a ≡ false) × (ends a ≡ true)) where
  abbrev pub since : Answers → Option ℕ
  since t = last_begun begins ends t

  -- what began is one of the edges
  begun_by_end : (t : Answers) (m : ℕ) → since t ≡ Some m → m ≤ length t
  begun_by_end [] m is = absurd (some_none m is)
  begun_by_end (a ∷ t) m is = at (begins a) (ends a) (begun_by_end t m) is
    where
      at : (b e : Bool) → (since t ≡ Some m → m ≤ length t) → (if b then Some (length (a ∷ t)) else (if e then None else since t)) ≡ Some m → m ≤ length (a ∷ t)
      at true e before is = let same = some_is (length (a ∷ t)) m is in omega (arith, same)
      at false true before is = absurd (some_none m is)
      at false false before is = let within = before is in omega (arith, within)

  spanned_apart : (n : ℕ) (t : Answers) (o : Option ℕ) → since t ≡ o → length t < n → IsApart since closes t → span n o + sum (spans since closes t) ≤ n
  spanned_apart n t None is past h = let all = h.all in omega (arith, all)
  spanned_apart n t (Some m) is past h = let before = h.begun m is in let within = begun_by_end t m is in omega (arith, before, within)

  next_apart : (a : Answered) (t : Answers) (c : Bool) → closes a ≡ c → IsApart since closes t → IsApart since closes (a ∷ t)
  next_apart a t true c h =
      let sum_is = sum_closed since closes a t c in
      let most = spanned_apart (length (a ∷ t)) t (since t) refl (omega arith) h in
      record {
        all = omega (arith, sum_is, most);
        begun = λ m is. absurd (some_none m (sym (ap (λ (b : Bool). if b then Some (length (a ∷ t)) else (if ends a then None else since t)) (ending a c).0
            ∙ ap (λ (b : Bool). if b then None else since t) (ending a c).1) ∙ is));
      }
  next_apart a t false c h =
      let same = ap sum (not_closed since closes a t c) in
      let all = h.all in record { all = omega (arith, same, all); begun = λ m is. rw same (at (begins a) (ends a) m is) }
    where
      at : (b e : Bool) (m : ℕ) → (if b then Some (length (a ∷ t)) else (if e then None else since t)) ≡ Some m → sum (spans since closes t) ≤ m
      at true e m is = let same = some_is (length (a ∷ t)) m is in let all = h.all in omega (arith, same, all)
      at false true m is = absurd (some_none m is)
      at false false m is = h.begun m is

  pub are_apart : (t : Answers) → IsApart since closes t
  are_apart [] = record { all = omega arith; begun = λ m is. absurd (some_none m is) }
  are_apart (a ∷ t) = next_apart a t (closes a) refl (are_apart t)

  -- what an edge adds to the sum, and to the greatest
  pub sum_after : (a : Answered) (t : Answers) → length t + 1 < 2 ^ 64
      → sum (spans since closes (a ∷ t)) ≡ (if closes a then more (sum (spans since closes t)) (span (length (a ∷ t)) (since t)) else sum (spans since closes t))
  sum_after a t few = at (closes a) refl
    where
      at : (c : Bool) → closes a ≡ c → sum (spans since closes (a ∷ t)) ≡ (if c then more (sum (spans since closes t)) (span (length (a ∷ t)) (since t)) else sum (spans since closes t))
      at true c = let sum_is = sum_closed since closes a t c in let most = spanned_apart (length (a ∷ t)) t (since t) refl (omega arith) (are_apart t) in omega (arith, sum_is, most, few)
      at false c = ap sum (not_closed since closes a t c)

  pub greatest_after : (a : Answered) (t : Answers)
      → greatest (spans since closes (a ∷ t)) ≡ (if closes a then max (greatest (spans since closes t)) (span (length (a ∷ t)) (since t)) else greatest (spans since closes t))
  greatest_after a t = at (closes a) refl
    where
      at : (c : Bool) → closes a ≡ c → greatest (spans since closes (a ∷ t)) ≡ (if c then max (greatest (spans since closes t)) (span (length (a ∷ t)) (since t)) else greatest (spans since closes t))
      at true c = greatest_closed since closes a t c
      at false c = ap greatest (not_closed since closes a t c)
