-- One more place in a set, and sets that are equal.
use Rattle.std.proofs.Common.{◌≡◌, ◌≢◌, ◌⊎◌, inl, inr, ◌<◌, ◌≤◌, ◌+◌, ◌-◌, ◌*◌, ◌/◌, ◌%◌, ◌^◌, ℕ, zero, suc, true, false, refl, sym, ◌∙◌, ap, arith}
use Rattle.std.specs.Prelude.{nat_lt, ◌==◌, ◌&&◌, ◌||◌}
use Rattle.std.specs.Int.{w128, bit_at, trailing_ones}
use Rattle.std.specs.Int.RustNames.{bit_or}
use Rattle.std.proofs.lemmas.Bool.{cases_lt}
use Rattle.std.proofs.lemmas.Bool.Decides.{nat_tests}
use Rattle.std.proofs.Math.Nat.{div-div-eq-div-mul, pow-suc}
use Rattle.std.proofs.lemmas.Nat.{or_lt, pow_below}
use Rattle.std.proofs.lemmas.Nat.Bits.{bit_at-suc, bit_at-lt, bit_at-trailing_ones, bit_at_above, bit_at_set_same, bit_at_set_other, same_from_bits}
use Rattle.vme_order_search.specs.declared.taken.Taken.{Taken}
use Rattle.vme_order_search.specs.Places.{holds}

-- ---- what a set holds

pub below_least : (t : Taken) (i : ℕ) → i < t.least → holds t i ≡ true
below_least t i lt =
    let is : nat_lt i t.least ≡ true = grind (arith, nat_tests) in
    ap (λ x. x || (nat_lt t.least i && (bit_at t.behind (i - t.least - 1) == 1))) is

pub at_least : (t : Taken) (i : ℕ) → i ≡ t.least → holds t i ≡ false
at_least t i e =
    let low : nat_lt i t.least ≡ false = grind (arith, nat_tests) in
    let high : nat_lt t.least i ≡ false = grind (arith, nat_tests) in
    ap (λ x. x || (nat_lt t.least i && (bit_at t.behind (i - t.least - 1) == 1))) low
    ∙ ap (λ x. x && (bit_at t.behind (i - t.least - 1) == 1)) high

behind_least : (t : Taken) (i : ℕ) → t.least < i
    → holds t i ≡ (bit_at t.behind (i - t.least - 1) == 1)
behind_least t i lt =
    let low : nat_lt i t.least ≡ false = grind (arith, nat_tests) in
    let high : nat_lt t.least i ≡ true = grind (arith, nat_tests) in
    ap (λ x. x || (nat_lt t.least i && (bit_at t.behind (i - t.least - 1) == 1))) low
    ∙ ap (λ x. x && (bit_at t.behind (i - t.least - 1) == 1)) high

-- a place too far behind is not in it
pub far_behind : (t : Taken) (i : ℕ) → t.behind < 2 ^ 128 → t.least < i → 128 ≤ i - t.least - 1
    → holds t i ≡ false
far_behind t i small lt far =
    behind_least t i lt ∙ ap (λ x. x == 1) (bit_at_above t.behind 128 (i - t.least - 1) small far)

-- ---- one more place

-- with one more place behind the least that is missing
more_same : (t u : Taken) (place i : ℕ) → u.least ≡ t.least
    → u.behind ≡ bit_or t.behind (1 * 2 ^ (place - t.least - 1) % 2 ^ 128) → t.least < place
    → place - t.least - 1 < 128 → i ≡ place → holds u i ≡ true
more_same t u place i e f lt near is =
    let within : u.least < i = omega arith in
    let at : i - u.least - 1 ≡ place - t.least - 1 = omega arith in
    behind_least u i within ∙ ap (λ k. bit_at u.behind k == 1) at
    ∙ ap (λ b. bit_at b (place - t.least - 1) == 1) f
    ∙ ap (λ x. x == 1) (bit_at_set_same w128 t.behind (place - t.least - 1) near)

more_other : (t u : Taken) (place i : ℕ) → u.least ≡ t.least
    → u.behind ≡ bit_or t.behind (1 * 2 ^ (place - t.least - 1) % 2 ^ 128) → t.least < place
    → place - t.least - 1 < 128 → i ≢ place → (i < t.least) ⊎ (t.least ≤ i)
    → (t.least < i) ⊎ (i ≤ t.least) → holds u i ≡ holds t i
more_other t u place i e f lt near apart (inl low) where_is =
    below_least u i (omega arith) ∙ sym (below_least t i low)
more_other t u place i e f lt near apart (inr high) (inr low) =
    at_least u i (omega arith) ∙ sym (at_least t i (omega arith))
more_other t u place i e f lt near apart (inr high) (inl behind) =
    let same : i - u.least - 1 ≡ i - t.least - 1 = omega arith in
    let other : i - t.least - 1 ≢ place - t.least - 1 = (λ h. apart (omega arith)) in
    behind_least u i (omega arith) ∙ ap (λ k. bit_at u.behind k == 1) same
    ∙ ap (λ b. bit_at b (i - t.least - 1) == 1) f
    ∙ ap (λ x. x == 1) (bit_at_set_other w128 t.behind (place - t.least - 1) near (i - t.least - 1) other)
    ∙ sym (behind_least t i behind)

is_same : (i place : ℕ) → i ≡ place → (place == i) ≡ true
is_same i place e = grind (arith, nat_tests)

is_other : (i place : ℕ) → i ≢ place → (place == i) ≡ false
is_other i place e = grind (arith, nat_tests)

-- what a set holds with one more place, by whether it is that place
one_more : (t u : Taken) (place i : ℕ) → (i ≡ place → holds u i ≡ true)
    → (i ≢ place → holds u i ≡ holds t i) → (i < place) ⊎ (place ≤ i) → (place < i) ⊎ (i ≤ place)
    → holds u i ≡ ((place == i) || holds t i)
one_more t u place i same other (inl low) where_is =
    other (λ h. omega arith) ∙ ap (λ x. x || holds t i) (sym (is_other i place (λ h. omega arith)))
one_more t u place i same other (inr low) (inl high) =
    other (λ h. omega arith) ∙ ap (λ x. x || holds t i) (sym (is_other i place (λ h. omega arith)))
one_more t u place i same other (inr low) (inr high) =
    same (omega arith) ∙ ap (λ x. x || holds t i) (sym (is_same i place (omega arith)))

pub holds_more : (t u : Taken) (place i : ℕ) → u.least ≡ t.least
    → u.behind ≡ bit_or t.behind (1 * 2 ^ (place - t.least - 1) % 2 ^ 128) → t.least < place
    → place - t.least - 1 < 128 → holds u i ≡ ((place == i) || holds t i)
holds_more t u place i e f lt near =
    one_more t u place i (more_same t u place i e f lt near)
    (λ apart. more_other t u place i e f lt near apart (cases_lt i t.least) (cases_lt t.least i))
    (cases_lt i place) (cases_lt place i)

-- the bits of a number that was shifted
shifted : (a n r : ℕ) → bit_at (n / 2 ^ a) r ≡ bit_at n (a + r)
shifted zero n r =
    let e : n / 2 ^ 0 ≡ n = omega arith in
    let f : 0 + r ≡ r = omega arith in
    ap (λ x. bit_at x r) e ∙ ap (bit_at n) (sym f)
shifted (suc a) n r =
    let e : n / 2 ^ suc a ≡ n / 2 ^ a / 2 = halved n a in
    let f : suc a + r ≡ a + suc r = omega arith in
    ap (λ x. bit_at x r) e ∙ sym (bit_at-suc (n / 2 ^ a) r) ∙ shifted a n (suc r)
    ∙ ap (bit_at n) (sym f)
  where
    halved : (n a : ℕ) → n / 2 ^ suc a ≡ n / 2 ^ a / 2
    halved n a = ap (λ x. n / x) (pow-suc 2 a) ∙ sym (div-div-eq-div-mul n (2 ^ a) 2)

full_same : (t u : Taken) (m i : ℕ) → u.least ≡ t.least + m + 1 → u.behind ≡ t.behind / 2 ^ m / 2
    → i ≡ t.least → holds u i ≡ true
full_same t u m i e f is = below_least u i (omega arith)

full_other : (t u : Taken) (m i : ℕ) → u.least ≡ t.least + m + 1 → u.behind ≡ t.behind / 2 ^ m / 2
    → bit_at t.behind m ≡ 0 → ((k : ℕ) → k < m → bit_at t.behind k ≡ 1) → i ≢ t.least
    → (i < t.least) ⊎ (t.least ≤ i) → (i < u.least) ⊎ (u.least ≤ i)
    → (u.least < i) ⊎ (i ≤ u.least) → holds u i ≡ holds t i
full_other t u m i e f none ones apart (inl low) x y =
    below_least u i (omega arith) ∙ sym (below_least t i low)
full_other t u m i e f none ones apart (inr high) (inl low) y =
    let is : bit_at t.behind (i - t.least - 1) ≡ 1 =
    ones (i - t.least - 1) (omega arith) in
    below_least u i low ∙ ap (λ x. x == 1) (sym is)
    ∙ sym (behind_least t i (omega arith))
full_other t u m i e f none ones apart (inr high) (inr least) (inr most) =
    let at : i - t.least - 1 ≡ m = omega arith in
    let is : bit_at t.behind (i - t.least - 1) ≡ 0 = ap (bit_at t.behind) at ∙ none in
    at_least u i (omega arith) ∙ ap (λ x. x == 1) (sym is)
    ∙ sym (behind_least t i (omega arith))
full_other t u m i e f none ones apart (inr high) (inr least) (inl beyond) =
    let at : m + (1 + (i - u.least - 1)) ≡ i - t.least - 1 = omega arith in
    let half : t.behind / 2 ^ m / 2 ≡ t.behind / 2 ^ m / 2 ^ 1 = refl in
    behind_least u i beyond ∙ ap (λ b. bit_at b (i - u.least - 1) == 1) (f ∙ half)
    ∙ ap (λ x. x == 1) (shifted 1 (t.behind / 2 ^ m) (i - u.least - 1)
    ∙ shifted m t.behind (1 + (i - u.least - 1)) ∙ ap (bit_at t.behind) at)
    ∙ sym (behind_least t i (omega arith))

pub holds_full : (t u : Taken) (place i : ℕ) → t.behind < 2 ^ 127 → place ≡ t.least
    → u.least ≡ t.least + trailing_ones w128 t.behind + 1
    → u.behind ≡ t.behind / 2 ^ trailing_ones w128 t.behind / 2
    → holds u i ≡ ((place == i) || holds t i)
holds_full t u place i narrow is e f =
    let small : t.behind + 1 < 2 ^ 128 = omega (arith, pow-suc 2 127) in
    let ones = bit_at-trailing_ones w128 t.behind small in
    one_more t u place i (λ h. full_same t u _ i e f (h ∙ is))
    (λ h. full_other t u _ i e f ones.1 ones.2 (λ g. h (g ∙ sym is)) (cases_lt i t.least)
    (cases_lt i u.least) (cases_lt u.least i))
    (cases_lt i place) (cases_lt place i)

-- the set stays narrow
pub narrow_more : (b k : ℕ) → b < 2 ^ 127 → k < 127 → bit_or b (1 * 2 ^ k % 2 ^ 128) < 2 ^ 127
narrow_more b k narrow near =
    let small : 2 ^ k < 2 ^ 127 = pow_below k 127 near in
    let le : 1 * 2 ^ k % 2 ^ 128 < 2 ^ 127 = omega arith in
    or_lt 127 b (1 * 2 ^ k % 2 ^ 128) narrow le

-- ---- equal sets

not_less : (t u : Taken) → ((i : ℕ) → holds t i ≡ holds u i) → t.least < u.least → ⊥
not_less t u same lt =
    absurd (no_both (sym (at_least t t.least refl) ∙ same t.least ∙ below_least u t.least lt))
  where
    no_both : false ≡ true → ⊥
    no_both h = cc

same_bit : (a b : ℕ) → a < 2 → b < 2 → (a == 1) ≡ (b == 1) → a ≡ b
same_bit a b la lb h = grind (arith, nat_tests)

same_least : (t u : Taken) → ((i : ℕ) → holds t i ≡ holds u i)
    → (t.least < u.least) ⊎ (u.least ≤ t.least) → (u.least < t.least) ⊎ (t.least ≤ u.least)
    → t.least ≡ u.least
same_least t u same (inl h) x = absurd (not_less t u same h)
same_least t u same (inr h) (inl g) = absurd (not_less u t (λ i. sym (same i)) g)
same_least t u same (inr h) (inr g) = omega arith

bit_of : (t : Taken) (k : ℕ) → holds t (t.least + 1 + k) ≡ (bit_at t.behind k == 1)
bit_of t k =
    let at : t.least + 1 + k - t.least - 1 ≡ k = omega arith in
    behind_least t (t.least + 1 + k) (omega arith) ∙ ap (λ x. bit_at t.behind x == 1) at

same_behind : (t u : Taken) → ((i : ℕ) → holds t i ≡ holds u i) → t.least ≡ u.least
    → t.behind ≡ u.behind
same_behind t u same e =
    same_from_bits t.behind u.behind (λ k.
    same_bit (bit_at t.behind k) (bit_at u.behind k) (bit_at-lt t.behind k) (bit_at-lt u.behind k)
    (sym (bit_of t k) ∙ same (t.least + 1 + k) ∙ ap (λ l. holds u (l + 1 + k)) e ∙ bit_of u k))

-- two sets with the same places are one
pub one_set : (t u : Taken) → ((i : ℕ) → holds t i ≡ holds u i) → t ≡ u
one_set t u same =
    let e : t.least ≡ u.least = same_least t u same (cases_lt t.least u.least) (cases_lt u.least t.least) in
    let f : t.behind ≡ u.behind = same_behind t u same e in
    (λ i. record { least = e i; behind = f i })
