-- One bit of a word: `SlotSet`.
use Rattle.std.proofs.Common.{◌≡◌, ◌≢◌, ◌∙◌, refl, sym, ap, ℕ, zero, suc, Bool, true, false, ◌+◌, ◌-◌, ◌*◌, ◌%◌, ◌^◌, ◌<◌, ◌≤◌, arith, w32, add-one, pow-suc}
use Rattle.std.specs.Prelude.{nat_lt, ◌==◌, ◌&&◌, ◌||◌, not, min, max, if◌then◌else◌}
use Rattle.std.specs.Int.{bit_at, bit_not, trailing_zeros}
use Rattle.std.specs.Int.RustNames.{bit_or, bit_xor}
use lib.Bits.{bit_and}
use Rattle.std.specs.Int.Bits.{and_le_l}
use Rattle.std.proofs.Math.Pow.{pow-lt, pow_pos}
use Rattle.std.proofs.Math.Nat.{mod-eq_of_lt}
use Rattle.std.proofs.lemmas.Bool.Decides.{nat_tests}
use Rattle.std.proofs.lemmas.Nat.Bits.{bit_at-pow_same, bit_at-pow_other, bit_at_and, bit_at_or, bit_at_not, bit_at_xor, bit_at-lt, and_pow, bit_at-zero, bit_at_set_same, bit_at_set_other, bit_at_clear_same, bit_at_clear_other, bit_at_above, bit_at-trailing_zeros, ones_shl, bit_at_mask_inside, bit_at_mask_below}

-- the word of one slot
pub one_bit : (k : ℕ) → k < 32 → 1 * 2 ^ k % 2 ^ 32 ≡ 2 ^ k
one_bit k near =
    ap (λ x. x % 2 ^ 32) (let e : 1 * 2 ^ k ≡ 2 ^ k = omega arith in e) ∙ mod-eq_of_lt (pow-lt near)

pub turned_same : (n k : ℕ) → k < 32 → (bit_at (bit_xor n (1 * 2 ^ k % 2 ^ 32)) k == 1) ≡ not (bit_at n k == 1)
turned_same n k near =
    ap (λ m. bit_at (bit_xor n m) k == 1) (one_bit k near)
    ∙ ap (λ x. x == 1) (bit_at_xor n (2 ^ k) k)
    ∙ ap (λ x. (bit_at n k + x) % 2 == 1) (bit_at-pow_same k)
    ∙ other (bit_at n k) (bit_at-lt n k)
  where
    other : (x : ℕ) → x < 2 → ((x + 1) % 2 == 1) ≡ not (x == 1)
    other zero l = refl
    other (suc zero) l = refl
    other (suc (suc x)) l = absurd (omega arith)

pub turned_other : (n k s : ℕ) → k < 32 → s ≢ k → (bit_at (bit_xor n (1 * 2 ^ k % 2 ^ 32)) s == 1) ≡ (bit_at n s == 1)
turned_other n k s near apart =
    ap (λ m. bit_at (bit_xor n m) s == 1) (one_bit k near)
    ∙ ap (λ x. x == 1) (bit_at_xor n (2 ^ k) s)
    ∙ ap (λ x. (bit_at n s + x) % 2 == 1) (bit_at-pow_other k s apart)
    ∙ same (bit_at n s) (bit_at-lt n s)
  where
    same : (x : ℕ) → x < 2 → ((x + 0) % 2 == 1) ≡ (x == 1)
    same zero l = refl
    same (suc zero) l = refl
    same (suc (suc x)) l = absurd (omega arith)

pub with_same : (n k : ℕ) → k < 32 → (bit_at (bit_or n (1 * 2 ^ k % 2 ^ 32)) k == 1) ≡ true
with_same n k near = ap (λ x. x == 1) (bit_at_set_same w32 n k near)

pub with_other : (n k s : ℕ) → k < 32 → s ≢ k → (bit_at (bit_or n (1 * 2 ^ k % 2 ^ 32)) s == 1) ≡ (bit_at n s == 1)
with_other n k s near apart = ap (λ x. x == 1) (bit_at_set_other w32 n k near s apart)

pub without_same : (n k : ℕ) → k < 32 → (bit_at (bit_and n (bit_not w32 (1 * 2 ^ k % 2 ^ 32))) k == 1) ≡ false
without_same n k near = ap (λ x. x == 1) (bit_at_clear_same w32 n k near)

pub and_bits : (a b s : ℕ) → (bit_at (bit_and a b) s == 1) ≡ ((bit_at a s == 1) && (bit_at b s == 1))
and_bits a b s = ap (λ x. x == 1) (bit_at_and a b s) ∙ both (bit_at a s) (bit_at b s) (bit_at-lt a s) (bit_at-lt b s)
  where
    both : (x y : ℕ) → x < 2 → y < 2 → (min x y == 1) ≡ ((x == 1) && (y == 1))
    both zero zero l m = refl
    both zero (suc zero) l m = refl
    both (suc zero) zero l m = refl
    both (suc zero) (suc zero) l m = refl
    both (suc (suc x)) y l m = absurd (omega arith)
    both x (suc (suc y)) l m = absurd (omega arith)

pub or_bits : (a b s : ℕ) → (bit_at (bit_or a b) s == 1) ≡ ((bit_at a s == 1) || (bit_at b s == 1))
or_bits a b s = ap (λ x. x == 1) (bit_at_or a b s) ∙ one (bit_at a s) (bit_at b s) (bit_at-lt a s) (bit_at-lt b s)
  where
    one : (x y : ℕ) → x < 2 → y < 2 → (max x y == 1) ≡ ((x == 1) || (y == 1))
    one zero zero l m = refl
    one zero (suc zero) l m = refl
    one (suc zero) zero l m = refl
    one (suc zero) (suc zero) l m = refl
    one (suc (suc x)) y l m = absurd (omega arith)
    one x (suc (suc y)) l m = absurd (omega arith)

pub xor_bits : (a b s : ℕ) → (bit_at (bit_xor a b) s == 1) ≡ (if bit_at b s == 1 then not (bit_at a s == 1) else (bit_at a s == 1))
xor_bits a b s = ap (λ x. x == 1) (bit_at_xor a b s) ∙ one (bit_at a s) (bit_at b s) (bit_at-lt a s) (bit_at-lt b s)
  where
    one : (x y : ℕ) → x < 2 → y < 2 → ((x + y) % 2 == 1) ≡ (if y == 1 then not (x == 1) else (x == 1))
    one zero zero l m = refl
    one zero (suc zero) l m = refl
    one (suc zero) zero l m = refl
    one (suc zero) (suc zero) l m = refl
    one (suc (suc x)) y l m = absurd (omega arith)
    one x (suc (suc y)) l m = absurd (omega arith)

pub except_bits : (a b s : ℕ) → a < 2 ^ 32 → b < 2 ^ 32 → (bit_at (bit_and a (bit_not w32 b)) s == 1) ≡ ((bit_at a s == 1) && not (bit_at b s == 1))
except_bits a b s small also = and_bits a (bit_not w32 b) s ∙ by_place (nat_lt s 32) refl
  where
    other : (y : ℕ) → y < 2 → (1 - y == 1) ≡ not (y == 1)
    other zero l = refl
    other (suc zero) l = refl
    other (suc (suc y)) l = absurd (omega arith)

    by_place : (c : Bool) → nat_lt s 32 ≡ c → ((bit_at a s == 1) && (bit_at (bit_not w32 b) s == 1)) ≡ ((bit_at a s == 1) && not (bit_at b s == 1))
    by_place true is =
        let l : s < 32 = grind (arith, nat_tests) in
        ap (λ x. (bit_at a s == 1) && x) (ap (λ x. x == 1) (bit_at_not w32 b s also l) ∙ other (bit_at b s) (bit_at-lt b s))
    by_place false is =
        let l : 32 ≤ s = grind (arith, nat_tests) in
        let off : (bit_at a s == 1) ≡ false = ap (λ x. x == 1) (bit_at_above a 32 s small l) in
        ap (λ x. x && (bit_at (bit_not w32 b) s == 1)) off ∙ sym (ap (λ x. x && not (bit_at b s == 1)) off)

pub without_other : (n k s : ℕ) → n < 2 ^ 32 → k < 32 → s ≢ k → (bit_at (bit_and n (bit_not w32 (1 * 2 ^ k % 2 ^ 32))) s == 1) ≡ (bit_at n s == 1)
without_other n k s small near apart = by_place (nat_lt s 32) refl
  where
    by_place : (b : Bool) → nat_lt s 32 ≡ b → (bit_at (bit_and n (bit_not w32 (1 * 2 ^ k % 2 ^ 32))) s == 1) ≡ (bit_at n s == 1)
    by_place true is =
        let l : s < 32 = grind (arith, nat_tests) in
        ap (λ x. x == 1) (bit_at_clear_other w32 n k near s l apart)
    by_place false is =
        let l : 32 ≤ s = grind (arith, nat_tests) in
        let off : (bit_at n s == 1) ≡ false = ap (λ x. x == 1) (bit_at_above n 32 s small l) in
        and_bits n (bit_not w32 (1 * 2 ^ k % 2 ^ 32)) s ∙ ap (λ b. b && (bit_at (bit_not w32 (1 * 2 ^ k % 2 ^ 32)) s == 1)) off ∙ sym off

-- the test of one bit
pub tested : (n k : ℕ) → k < 32 → not (bit_and n (1 * 2 ^ k % 2 ^ 32) == 0) ≡ (bit_at n k == 1)
tested n k near =
    ap (λ m. not (bit_and n m == 0)) (one_bit k near)
    ∙ ap (λ x. not (x == 0)) (and_pow n k)
    ∙ by_bit (bit_at n k) (bit_at-lt n k)
  where
    positive : (m : ℕ) → 0 < m → not (1 * m == 0) ≡ true
    positive zero l = absurd (omega arith)
    positive (suc m) l = grind (arith, nat_tests)

    by_bit : (x : ℕ) → x < 2 → not (x * 2 ^ k == 0) ≡ (x == 1)
    by_bit zero l = grind (arith, nat_tests)
    by_bit (suc zero) l = positive (2 ^ k) (omega (arith, pow_pos k))
    by_bit (suc (suc x)) l = absurd (omega arith)

-- beyond the word no bit is set
pub beyond : (n k : ℕ) → n < 2 ^ 32 → 32 ≤ k → (bit_at n k == 1) ≡ false
beyond n k small far = ap (λ x. x == 1) (bit_at_above n 32 k small far)

-- a word that is not 0 has a bit
pub lowest : (n : ℕ) → n < 2 ^ 32 → not (n == 0) ≡ true → (s : ℕ) × ((bit_at n s == 1) ≡ true)
lowest n small some =
    let l : 0 < n = grind (arith, nat_tests) in
    let t = bit_at-trailing_zeros w32 n l small in
    (trailing_zeros w32 n, ap (λ x. x == 1) t.1)

pub some_bit : (n s : ℕ) → (bit_at n s == 1) ≡ true → not (n == 0) ≡ true
some_bit zero s on = let bad : false ≡ true = sym (ap (λ x. x == 1) (bit_at-zero s)) ∙ on in cc
some_bit (suc n) s on = grind (arith, nat_tests)

with_true : (b : Bool) → (b && true) ≡ b
with_true true = refl
with_true false = refl

pub with_false : (b : Bool) → (b && false) ≡ false
with_false true = refl
with_false false = refl

-- the word of the slots above one
above_word : (k : ℕ) → k < 32 → 4294967294 * 2 ^ k % 2 ^ 32 ≡ 2 ^ 32 - 2 ^ (k + 1)
above_word k near =
    let twice : 2 ^ (k + 1) ≡ 2 ^ k * 2 = ap (λ i. 2 ^ i) (add-one k) ∙ pow-suc 2 k in
    let shifted : (2 ^ 32 - 1) * 2 ^ (k + 1) % 2 ^ 32 ≡ 2 ^ 32 - 2 ^ (k + 1) = ones_shl 32 (k + 1) (omega arith) in
    omega (arith, twice, shifted)

module _ (n k : ℕ) (small : n < 2 ^ 32) (near : k < 32) where
  above : ℕ
  above = bit_and n (4294967294 * 2 ^ k % 2 ^ 32)

  -- of the slots above one it has those that were held
  held_above : (s : ℕ) → k < s → (bit_at above s == 1) ≡ (bit_at n s == 1)
  unfolding above
  held_above s up =
      and_bits n (4294967294 * 2 ^ k % 2 ^ 32) s ∙ ap (λ m. (bit_at n s == 1) && (bit_at m s == 1)) (above_word k near) ∙ by_place (nat_lt s 32) refl
    where
      by_place : (c : Bool) → nat_lt s 32 ≡ c → ((bit_at n s == 1) && (bit_at (2 ^ 32 - 2 ^ (k + 1)) s == 1)) ≡ (bit_at n s == 1)
      by_place true is =
          let l : s < 32 = grind (arith, nat_tests) in
          ap (λ x. (bit_at n s == 1) && (x == 1)) (bit_at_mask_inside (k + 1) 32 s (omega arith) l) ∙ with_true (bit_at n s == 1)
      by_place false is =
          let l : 32 ≤ s = grind (arith, nat_tests) in
          let off : (bit_at n s == 1) ≡ false = ap (λ x. x == 1) (bit_at_above n 32 s small l) in
          ap (λ x. x && (bit_at (2 ^ 32 - 2 ^ (k + 1)) s == 1)) off ∙ sym off

  -- and no other
  none_below : (s : ℕ) → s ≤ k → (bit_at above s == 1) ≡ false
  unfolding above
  none_below s down =
      and_bits n (4294967294 * 2 ^ k % 2 ^ 32) s ∙ ap (λ m. (bit_at n s == 1) && (bit_at m s == 1)) (above_word k near)
      ∙ ap (λ x. (bit_at n s == 1) && (x == 1)) (bit_at_mask_below (k + 1) 32 s (omega arith)) ∙ with_false (bit_at n s == 1)

  -- where it is 0, no slot above is held
  pub none_above : bit_and n (4294967294 * 2 ^ k % 2 ^ 32) ≡ 0 → (s : ℕ) → k < s → (bit_at n s == 1) ≡ false
  unfolding above
  none_above none s up = sym (held_above s up) ∙ ap (λ m. bit_at m s == 1) none ∙ ap (λ x. x == 1) (bit_at-zero s)

  -- its lowest bit is the least that is
  pub next_above : (bit_and n (4294967294 * 2 ^ k % 2 ^ 32) ≡ 0 → ⊥)
      → (m : ℕ) → m ≡ trailing_zeros w32 (bit_and n (4294967294 * 2 ^ k % 2 ^ 32)) → (k < m) × (m < 32) × ((bit_at n m == 1) ≡ true) × ((s : ℕ) → k < s → s < m → (bit_at n s == 1) ≡ false)
  unfolding above
  next_above some m is =
      let t = bit_at-trailing_zeros w32 above (omega (arith, some)) (omega (arith, and_le_l n (4294967294 * 2 ^ k % 2 ^ 32))) in
      let on : (bit_at above m == 1) ≡ true = ap (λ i. bit_at above i == 1) is ∙ ap (λ x. x == 1) t.1 in
      let up : k < m = by_place (nat_lt k m) refl on in
      (up, omega (arith, is, t.0), sym (held_above m up) ∙ on, λ s l b. sym (held_above s l) ∙ ap (λ x. x == 1) (t.2 s (omega (arith, is, b))))
    where
      by_place : (c : Bool) → nat_lt k m ≡ c → (bit_at above m == 1) ≡ true → k < m
      by_place true e on = grind (arith, nat_tests)
      by_place false e on =
          let l : m ≤ k = grind (arith, nat_tests) in
          let bad : false ≡ true = sym (none_below m l) ∙ on in
          cc
