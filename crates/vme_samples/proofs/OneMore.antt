-- A set of places with one place more.
use Rattle.std.proofs.Common.{◌≡◌, ◌≢◌, ◌⊎◌, ◌∙◌, inl, inr, ◌<◌, ◌≤◌, ◌+◌, ◌-◌, ◌^◌, ℕ, true, false, sym, ap, subst, arith}
use Rattle.std.specs.Prelude.{◌==◌, ◌*◌, max}
use Rattle.std.specs.Int.{bit_at}
use Rattle.std.specs.Int.Bits.{bit_or}
use Rattle.std.proofs.Math.Pow.{pow-lt, pow_pos}
use Rattle.std.proofs.lemmas.Bool.{cases_lt}
use Rattle.std.proofs.lemmas.Bool.Decides.{nat_tests}
use Rattle.std.proofs.lemmas.Nat.{or_disjoint, or_lt}
use Rattle.std.proofs.lemmas.Nat.Bits.{and_pow, bit_at-lt, bit_at-pow_other, bit_at-pow_same, bit_at-zero, bit_at_above, bit_at_ones, bit_at_or, same_from_bits_below}
use Rattle.vme_samples.specs.declared.places.Places.{Places}
use Rattle.vme_samples.specs.Places.{has_place, with, without}

pub off_bit : (n i : ℕ) → (bit_at n i == 1) ≡ false → bit_at n i ≡ 0
off_bit n i e = by_bit (bit_at n i) (bit_at-lt n i) e
  where
    by_bit : (b : ℕ) → b < 2 → (b == 1) ≡ false → b ≡ 0
    by_bit b l x = grind (arith, nat_tests)

-- such a bit is put in by a sum
added : (n i : ℕ) → (bit_at n i == 1) ≡ false → n + 2 ^ i ≡ bit_or n (2 ^ i)
added n i off = sym (or_disjoint n (2 ^ i) (and_pow n i ∙ ap (λ b. b * 2 ^ i) (off_bit n i off) ∙ no_times (2 ^ i)))
  where
    no_times : (k : ℕ) → 0 * k ≡ 0
    no_times k = omega arith

pub with_here : (set : Places) (i : ℕ) → has_place set i ≡ false → has_place (with set i) i ≡ true
with_here set i off =
    ap (λ x. bit_at x i == 1) (added set.bits i off)
    ∙ ap (λ x. x == 1) (bit_at_or set.bits (2 ^ i) i ∙ ap (λ x. max (bit_at set.bits i) x) (bit_at-pow_same i))
    ∙ up (bit_at set.bits i) (bit_at-lt set.bits i)
  where
    up : (b : ℕ) → b < 2 → (max b 1 == 1) ≡ true
    up b l = grind (arith, nat_tests)

pub with_other : (set : Places) (i j : ℕ) → has_place set i ≡ false → j ≢ i → has_place (with set i) j ≡ has_place set j
with_other set i j off apart =
    ap (λ x. bit_at x j == 1) (added set.bits i off)
    ∙ ap (λ x. x == 1) (bit_at_or set.bits (2 ^ i) j ∙ ap (λ x. max (bit_at set.bits j) x) (bit_at-pow_other i j apart) ∙ up (bit_at set.bits j))
  where
    up : (b : ℕ) → max b 0 ≡ b
    up b = omega arith

pub with_near : (set : Places) (i n : ℕ) → has_place set i ≡ false → set.bits < 2 ^ n → i < n → (with set i).bits < 2 ^ n
with_near set i n off near l = subst (λ x. x < 2 ^ n) (sym (added set.bits i off)) (or_lt n set.bits (2 ^ i) near (pow-lt l))

pub same_places : (a b : Places) → a.bits ≡ b.bits → a ≡ b
same_places a b e = ap (λ (n : ℕ). let r : Places = record { bits = n } in r) e

pub with_more : (set : Places) (i : ℕ) → set.bits < (with set i).bits
with_more set i = let l : 0 < 2 ^ i = pow_pos i in omega (arith, l)

-- what is in a set can be taken out and put in again
pub taken_out : (set : Places) (i : ℕ) → has_place set i ≡ true → with (without set i) i ≡ set
taken_out set i on = same_places (with (without set i) i) set (by_size (cases_lt set.bits (2 ^ i)))
  where
    by_size : (set.bits < 2 ^ i) ⊎ (2 ^ i ≤ set.bits) → set.bits - 2 ^ i + 2 ^ i ≡ set.bits
    by_size (inl l) = absurd (clash (bit_at set.bits i) on (bit_at_above set.bits i i l (omega arith)))
      where
        clash : (b : ℕ) → (b == 1) ≡ true → b ≡ 0 → ⊥
        clash b x y = grind (arith, nat_tests)
    by_size (inr l) = omega (arith, l)

-- the set of all places
pub all_in : (set : Places) (n : ℕ) → set.bits < 2 ^ n → ((i : ℕ) → i < n → has_place set i ≡ true) → set.bits ≡ 2 ^ n - 1
all_in set n near each = same_from_bits_below n set.bits (2 ^ n - 1) near (let l : 0 < 2 ^ n = pow_pos n in omega (arith, l)) (λ i l. is_one (bit_at set.bits i) (each i l) ∙ sym (bit_at_ones n i l))
  where
    is_one : (b : ℕ) → (b == 1) ≡ true → b ≡ 1
    is_one b x = grind (arith, nat_tests)

pub none_in : (set : Places) → set.bits ≡ 0 → (i : ℕ) → has_place set i ≡ false
none_in set z i = ap (λ n. bit_at n i == 1) z ∙ ap (λ n. n == 1) (bit_at-zero i)
