-- A sum of bits determines each bit.
use Rattle.std.proofs.Common.{◌≡◌, ℕ, ◌+◌, ◌*◌, ◌≤◌, Bool, true, false, refl, arith}
use Rattle.std.specs.Prelude.{if◌then◌else◌}

-- a bit's share of a sum
abbrev bit : Bool → ℕ → ℕ
bit low value = if low then value else 0

scaled : (a : Bool) (n : ℕ) → bit a n ≡ n * bit a 1
scaled true n = omega arith
scaled false n = omega arith

small : (a : Bool) → bit a 1 ≤ 1
small true = omega arith
small false = omega arith

same_bit : (a b : Bool) → bit a 1 ≡ bit b 1 → a ≡ b
same_bit true true e = refl
same_bit true false e = absurd (omega (arith, e))
same_bit false true e = absurd (omega (arith, e))
same_bit false false e = refl

four : (a b c d w x y z : ℕ) → a ≤ 1 → b ≤ 1 → c ≤ 1 → d ≤ 1 → w ≤ 1 → x ≤ 1 → y ≤ 1 → z ≤ 1 → a + 2 * b + 4 * c + 8 * d ≡ w + 2 * x + 4 * y + 8 * z → (a ≡ w) × (b ≡ x) × (c ≡ y) × (d ≡ z)
four a b c d w x y z a1 b1 c1 d1 w1 x1 y1 z1 e = (omega arith, omega arith, omega arith, omega arith)

pub bits : (a b c d w x y z : Bool) → bit a 1 + bit b 2 + bit c 4 + bit d 8 ≡ bit w 1 + bit x 2 + bit y 4 + bit z 8 → (a ≡ w) × (b ≡ x) × (c ≡ y) × (d ≡ z)
bits a b c d w x y z e =
    let f : bit a 1 + 2 * bit b 1 + 4 * bit c 1 + 8 * bit d 1 ≡ bit w 1 + 2 * bit x 1 + 4 * bit y 1 + 8 * bit z 1 = omega (
      arith,
      e,
      scaled b 2,
      scaled c 4,
      scaled d 8,
      scaled x 2,
      scaled y 4,
      scaled z 8,
    ) in
    let g = four _ _ _ _ _ _ _ _ (small a) (small b) (small c) (small d) (small w) (small x) (small y) (small z) f in
    (same_bit a w g.0, same_bit b x g.1, same_bit c y g.2, same_bit d z g.3)

seven : (a b c d f g h w x y z q r s : ℕ) → a ≤ 1 → b ≤ 1 → c ≤ 1 → d ≤ 1 → f ≤ 1 → g ≤ 1 → h ≤ 1 → w ≤ 1 → x ≤ 1 → y ≤ 1 → z ≤ 1 → q ≤ 1 → r ≤ 1 → s ≤ 1 → a + 2 * b + 4 * c + 8 * d + 16 * f + 32 * g
    + 64 * h ≡ w + 2 * x + 4 * y + 8 * z + 16 * q + 32 * r + 64 * s → (a ≡ w) × (b ≡ x) × (c ≡ y) × (d ≡ z) × (f ≡ q) × (g ≡ r) × (h ≡ s)
seven a b c d f g h w x y z q r s a1 b1 c1 d1 f1 g1 h1 w1 x1 y1 z1 q1 r1 s1 e = (omega arith, omega arith, omega arith, omega arith, omega arith, omega arith, omega arith)

pub seven_bits : (a b c d f g h w x y z q r s : Bool) → bit a 1 + bit b 2 + bit c 4 + bit d 8 + bit f 16 + bit g 32 + bit h 64 ≡ bit w 1 + bit x 2 + bit y 4 + bit z 8 + bit q 16 + bit r 32 + bit s 64
    → (a ≡ w) × (b ≡ x) × (c ≡ y) × (d ≡ z) × (f ≡ q) × (g ≡ r) × (h ≡ s)
seven_bits a b c d f g h w x y z q r s e =
    let n : bit a 1 + 2 * bit b 1 + 4 * bit c 1 + 8 * bit d 1 + 16 * bit f 1 + 32 * bit g 1 + 64 * bit h 1 ≡ bit w 1 + 2 * bit x 1 + 4 * bit y 1 + 8 * bit z 1 + 16 * bit q 1 + 32 * bit r 1 + 64 * bit
    s 1 = omega (arith, e, scaled b 2, scaled c 4, scaled d 8, scaled f 16, scaled g 32, scaled h 64, scaled x 2, scaled y 4, scaled z 8, scaled q 16, scaled r 32, scaled s 64) in
    let m = seven _ _ _ _ _ _ _ _ _ _ _ _ _ _ (small a) (small b) (small c) (small d) (small f) (small g) (small h) (small w) (small x) (small y) (small z) (small q) (small r) (small s) n in
    (same_bit a w m.0, same_bit b x m.1, same_bit c y m.2, same_bit d z m.3, same_bit f q m.4, same_bit g r m.5, same_bit h s m.6)
