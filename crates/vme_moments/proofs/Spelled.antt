-- The number that digits spell.
use Rattle.std.proofs.Common.{◌≡◌, ◌≢◌, ◌&&◌, ◌<◌, ◌≤◌, ◌^◌, ℕ, Bool, true, false, eqb, ltb, cond, List, Option, Some, None, MatchOption, length, get_or, zero, suc, refl, sym, ◌∙◌, ap, subst, arith}
use Rattle.std.specs.Prelude.{decimal}
use Rattle.std.specs.Int.{IsInRange}
use Rattle.std.specs.Str.{IsUtf8}
use Rattle.std.proofs.lemmas.Str.{IsUtf8-from_ascii}
use Rattle.std.proofs.lemmas.Bool.Decides.{nat_tests}
use Rattle.std.proofs.lemmas.Fmt.{IsAscii-decimal, decimal-digits_value, decimal_digit, decimal_is_IsNumeral, first_decimal}
use Rattle.std.proofs.lemmas.Slice.Eq.{bytes_eq-Decides}
use Rattle.std.proofs.lemmas.Str.Parse.{IsNumeralModel, not_in_digits, numerals_by_value, tells_digits, without_leading_plus_none}
use Rattle.std.specs.Str.{bytes_eq}
use Rattle.std.specs.Str.Parse.{AllDigits, IsNumeral, digits_value, without_leading_plus}
use Rattle.vme_moments.specs.Moments.{number_of}
use Rattle.vme_moments.specs.Numerals.{IsNumber}

own : IsNumeralModel (AllDigits 10) (digits_value 10)
own = numerals_by_value (AllDigits 10) tells_digits

small_test : (n : ℕ) → n < 2 ^ 64 → ltb n (2 ^ 64) ≡ true
small_test n h = grind (arith, nat_tests)

-- digits without a leading zero spell their number
pub number_found : (ds : List ℕ) → IsNumeral 10 ds → digits_value 10 ds < 2 ^ 64
    → (get_or ds 0 0 ≡ 48 → length ds ≡ 1) → number_of ds ≡ Some (digits_value 10 ds)
unfolding number_of
number_found ds numeral small lead =
    let same : bytes_eq ds (decimal (digits_value 10 ds)) ≡ true =
    (bytes_eq-Decides ds (decimal (digits_value 10 ds))).1
    (sym (decimal-digits_value own ds numeral.1 numeral.0 lead small)) in
    rw (same, small_test (digits_value 10 ds) small) refl

-- what spells no number
pub number_missed : (ds : List ℕ) → ((n : ℕ) → n < 2 ^ 64 → ds ≡ decimal n → ⊥) → number_of ds ≡ None
unfolding number_of
number_missed ds none = missed (bytes_eq ds (decimal (digits_value 10 ds))) refl (ltb (digits_value 10 ds) (2 ^ 64)) refl
  where
    missed : (same : Bool) → bytes_eq ds (decimal (digits_value 10 ds)) ≡ same → (small : Bool)
        → ltb (digits_value 10 ds) (2 ^ 64) ≡ small
        → cond (same && small) (Some (digits_value 10 ds)) None ≡ None
    missed false e small f = refl
    missed true e false f = refl
    missed true e true f =
        let lt : digits_value 10 ds < 2 ^ 64 = grind (arith, nat_tests) in
        absurd (none (digits_value 10 ds) lt ((bytes_eq-Decides ds (decimal (digits_value 10 ds))).0 e))

no_plus_among : IsInRange 48 57 43 → ⊥
no_plus_among h = let low : 48 ≤ 43 = h.0 in absurd (omega arith)

-- a number in decimal spells itself
is_number : (n : ℕ) → n < 2 ^ 64 → IsNumber (decimal n) n
is_number n small =
    let spelled = decimal_is_IsNumeral n small in
    let plain : without_leading_plus (decimal n) ≡ decimal n =
    without_leading_plus_none (decimal n)
    (not_in_digits own (decimal n) 43 spelled.0.1 no_plus_among 0 spelled.0.0) in (
      subst (λ (l : List ℕ). IsNumeral 10 l) (sym plain) spelled.0,
      ap (λ (l : List ℕ). digits_value 10 l) plain ∙ spelled.1,
      small,
    )

spelled_as : (ds : List ℕ) (n : ℕ) → get_or ds 0 0 ≢ 43 → (get_or ds 0 0 ≡ 48 → length ds ≡ 1)
    → IsNumber ds n → number_of ds ≡ Some n
spelled_as ds n plus lead h =
    let plain : without_leading_plus ds ≡ ds = without_leading_plus_none ds plus in
    let numeral : IsNumeral 10 ds = subst (λ (l : List ℕ). IsNumeral 10 l) plain h.0 in
    let value : digits_value 10 ds ≡ n =
    sym (ap (λ (l : List ℕ). digits_value 10 l) plain) ∙ h.1 in
    let small : digits_value 10 ds < 2 ^ 64 = subst (λ (k : ℕ). k < 2 ^ 64) (sym value) h.2 in
    number_found ds numeral small lead ∙ ap (λ k. Some k) value

spelled_not : (ds : List ℕ) → ((n : ℕ) → ¬ (IsNumber ds n)) → number_of ds ≡ None
spelled_not ds none =
    number_missed ds (λ n small is. none n (subst (λ (l : List ℕ). IsNumber l n) (sym is) (is_number n small)))

-- a number in decimal is read as itself
pub decimal_number : (n : ℕ) → n < 2 ^ 64 → number_of (decimal n) ≡ Some n
unfolding number_of
decimal_number n small =
    let value : digits_value 10 (decimal n) ≡ n = (decimal_is_IsNumeral n small).1 in
    let same : bytes_eq (decimal n) (decimal n) ≡ true =
    (bytes_eq-Decides (decimal n) (decimal n)).1 refl in
    rw (value, same, small_test n small) refl

-- what is read as a number is that number in decimal
pub number_is : (ds : List ℕ) (n : ℕ) → number_of ds ≡ Some n → ds ≡ decimal n
unfolding number_of
number_is ds n h =
    found (bytes_eq ds (decimal (digits_value 10 ds))) refl (ltb (digits_value 10 ds) (2 ^ 64)) h
  where
    same_some : (k m : ℕ) → Some k ≡ Some m → k ≡ m
    same_some k m e = cc

    none_some : (m : ℕ) → (let o : Option ℕ = None in o ≡ Some m) → ⊥
    none_some m e = cc

    found : (same : Bool) → bytes_eq ds (decimal (digits_value 10 ds)) ≡ same → (small : Bool)
        → cond (same && small) (Some (digits_value 10 ds)) None ≡ Some n → ds ≡ decimal n
    found true e true f =
        (bytes_eq-Decides ds (decimal (digits_value 10 ds))).0 e
        ∙ ap (λ k. decimal k) (same_some (digits_value 10 ds) n f)
    found true e false f = absurd (none_some n f)
    found false e small f = absurd (none_some n f)

-- what a text of plain digits is read as
pub number_read : (ds text : List ℕ) (r : Option ℕ) → text ≡ ds → get_or ds 0 0 ≢ 43
    → (get_or ds 0 0 ≡ 48 → length ds ≡ 1)
    → MatchOption r ((n : ℕ) → ¬ (IsNumber text n)) (λ n. IsNumber text n) → r ≡ number_of ds
number_read ds text None same plus lead h =
    sym (spelled_not ds (subst (λ (l : List ℕ). (n : ℕ) → ¬ (IsNumber l n)) same h))
number_read ds text (Some n) same plus lead h =
    sym (spelled_as ds n plus lead (subst (λ (l : List ℕ). IsNumber l n) same h))

-- bytes that are no text spell no number
pub no_text : (ds : List ℕ) → ¬ (IsUtf8 ds) → None ≡ number_of ds
no_text ds none =
    sym (number_missed ds (λ n small is.
    none (subst (λ (l : List ℕ). IsUtf8 l) (sym is) (IsUtf8-from_ascii (decimal n) (IsAscii-decimal n small)))))

-- neither do others with a sign or a leading zero
pub not_plain : (ds : List ℕ) → ((n : ℕ) → n < 2 ^ 64 → ds ≢ decimal n) → None ≡ number_of ds
not_plain ds none = sym (number_missed ds none)

-- no number in decimal begins with a plus
pub plus_decimal : (ds : List ℕ) (n : ℕ) → n < 2 ^ 64 → get_or ds 0 0 ≡ 43 → ds ≢ decimal n
plus_decimal ds n small is same =
    let spelled = decimal_is_IsNumeral n small in
    let first : get_or (decimal n) 0 0 ≡ 43 =
    sym (ap (λ (l : List ℕ). get_or l 0 0) same) ∙ is in
    not_in_digits own (decimal n) 43 spelled.0.1 no_plus_among 0 spelled.0.0 first

-- no longer one begins with a zero
pub zero_decimal : (ds : List ℕ) (n : ℕ) → n < 2 ^ 64 → get_or ds 0 0 ≡ 48 → eqb (length ds) 1 ≡ false
    → ds ≢ decimal n
zero_decimal ds zero small is long same =
    let one : length ds ≡ 1 =
    ap (λ (l : List ℕ). length l) (same ∙ decimal_digit 0 (omega arith)) in
    absurd (not_one (length ds) one long)
  where
    not_one : (k : ℕ) → k ≡ 1 → eqb k 1 ≡ false → ⊥
    not_one k h f = grind (arith, nat_tests)
zero_decimal ds (suc n) small is long same =
    let first : 48 < get_or (decimal (suc n)) 0 0 = first_decimal (suc n) (omega arith) small in
    let zero_first : get_or (decimal (suc n)) 0 0 ≡ 48 =
    sym (ap (λ (l : List ℕ). get_or l 0 0) same) ∙ is in
    absurd (omega arith)
