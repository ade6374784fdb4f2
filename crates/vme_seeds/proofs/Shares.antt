-- Every number below a bound is the draw of some word.
use Rattle.std.proofs.Common.{◌≡◌, ℕ, ◌+◌, ◌*◌, ◌-◌, ◌/◌, ◌^◌, ◌<◌, ◌≤◌, arith}
use Rattle.std.proofs.Math.Nat.{lt_of_mul-lt-mul_right, lt-div-mul-add, div-mul-le_self}
use Rattle.vme_seeds.specs.Numbers.{scaled}

-- the first word whose share is x
abbrev word_for : ℕ → ℕ → ℕ
word_for n x = (x * 4294967296 + (n - 1)) / n

low : (n x : ℕ) → 0 < n → x * 4294967296 ≤ word_for n x * n
low n x some = omega (arith, some, lt-div-mul-add {a = x * 4294967296 + (n - 1)} {b = n} some)

high : (n x : ℕ) → 0 < n → word_for n x * n < x * 4294967296 + n
high n x some = omega (arith, some, div-mul-le_self (x * 4294967296 + (n - 1)) n)

quotient : (a x : ℕ) → x * 4294967296 ≤ a → a < x * 4294967296 + 4294967296 → a / 4294967296 ≡ x
quotient a x low high = omega (arith, low, high)

small : (n x : ℕ) → 0 < n → x < n → n ≤ 4294967296 → word_for n x < 4294967296
small n x some below most = lt_of_mul-lt-mul_right n (omega (arith, some, below, most, high n x some))

pub a_word : (n x : ℕ) → n ≤ 2 ^ 32 → x < n → (w : ℕ) × (w < 2 ^ 32) × (scaled w n ≡ x)
a_word n x most below =
    let some : 0 < n = omega (arith, below) in
    (word_for n x, small n x some below most, quotient (word_for n x * n) x (low n x some) (omega (arith, high n x some, most)))
