-- The number that digits spell.
use Rattle.std.proofs.Common.{◌≡◌, ◌≢◌, ◌&&◌, ◌<◌, ◌^◌, ℕ, Bool, true, false, eqb, ltb, cond, List, [], ◌∷◌, Option, Some, None, length, get_or, refl, sym, ◌∙◌, ap, subst, arith, decimal}
use Rattle.std.proofs.lemmas.Bool.Decides.{nat_tests}
use Rattle.std.proofs.lemmas.Fmt.{decimal-digits_value, decimal_is_IsNumeral}
use Rattle.std.proofs.lemmas.Slice.Eq.{bytes_eq-Decides}
use Rattle.std.proofs.lemmas.Str.Parse.{IsNumeralModel, numerals_by_value, tells_digits}
use Rattle.std.specs.Str.{bytes_eq}
use Rattle.std.specs.Str.Parse.{AllDigits, IsNumeral, digits_value}
use Rattle.vme_moments.specs.Moments.{number_of}

own : IsNumeralModel (AllDigits 10) (digits_value 10)
own = numerals_by_value (AllDigits 10) tells_digits

small_test : (n : ℕ) → n < 2 ^ 64 → ltb n (2 ^ 64) ≡ true
small_test n h = grind (arith, nat_tests)

-- digits without a leading zero spell their number
pub number_found : (ds : List ℕ) → IsNumeral 10 ds → digits_value 10 ds < 2 ^ 64
    → (get_or ds 0 0 ≡ 48 → length ds ≡ 1) → number_of ds ≡ Some (digits_value 10 ds)
unfolding number_of
number_found ds numeral small lead =
    let same : bytes_eq ds (decimal (digits_value 10 ds)) ≡ true =
        (bytes_eq-Decides ds (decimal (digits_value 10 ds))).1
        (sym (decimal-digits_value own ds numeral.1 numeral.0 lead small)) in
    rw (same, small_test (digits_value 10 ds) small) refl

-- what spells no number
pub number_missed : (ds : List ℕ) → ((n : ℕ) → n < 2 ^ 64 → ds ≡ decimal n → ⊥) → number_of ds ≡ None
unfolding number_of
number_missed ds none = missed (bytes_eq ds (decimal (digits_value 10 ds))) refl (ltb (digits_value 10 ds) (2 ^ 64)) refl
  where
  missed : (same : Bool) → bytes_eq ds (decimal (digits_value 10 ds)) ≡ same → (small : Bool)
      → ltb (digits_value 10 ds) (2 ^ 64) ≡ small
      → cond (same && small) (Some (digits_value 10 ds)) None ≡ None
  missed false e small f = refl
  missed true e false f = refl
  missed true e true f =
      let lt : digits_value 10 ds < 2 ^ 64 = grind (arith, nat_tests) in
      absurd (none (digits_value 10 ds) lt ((bytes_eq-Decides ds (decimal (digits_value 10 ds))).0 e))
