-- A set that takes in one slot after the other: `with_if` in a loop.
use Rattle.std.proofs.Common.{◌≡◌, ◌∙◌, ℕ, Bool, true, false, ◌+◌, ◌<◌, refl, sym, ap, subst, arith}
use Rattle.std.specs.Prelude.{◌&&◌, ◌||◌, ◌==◌, nat_lt, if◌then◌else◌}
use Rattle.std.proofs.lemmas.Bool.Decides.{nat_tests}
use Rattle.vme_model.proofs.Bools.{same_number}

-- f is what the set held before the slot k, and g behind it
abbrev pub Takes : (f g : ℕ → Bool) → ℕ → Bool → Type 0
Takes f g k b = (s : ℕ) → g s ≡ (if s == k then (f s || b) else f s)

one_further : (s k : ℕ) → (s == k) ≡ false → nat_lt s k ≡ nat_lt s (k + 1)
one_further s k is = grind (arith, nat_tests)

itself : (k : ℕ) (b : Bool) → (nat_lt k k && b) ≡ false
itself k b = grind (arith, nat_tests)

below_next : (k : ℕ) → nat_lt k (k + 1) ≡ true
below_next k = grind (arith, nat_tests)

pub grow : (f g test : ℕ → Bool) (k : ℕ) (b : Bool) → Takes f g k b → ((s : ℕ) → f s ≡ (nat_lt s k && test s)) → b ≡ test k → (s : ℕ) → g s ≡ (nat_lt s (k + 1) && test s)
grow f g test k b takes inv is s = by_place (s == k) refl
  where
    here : s ≡ k → (f k || b) ≡ (nat_lt k (k + 1) && test k)
    here e = rw (inv k, itself k (test k), below_next k) is

    by_place : (x : Bool) → (s == k) ≡ x → g s ≡ (nat_lt s (k + 1) && test s)
    by_place true at =
        let e = same_number s k at in
        takes s ∙ ap (λ x. if x then (f s || b) else f s) at ∙ ap (λ n. f n || b) e ∙ here e ∙ ap (λ n. nat_lt n (k + 1) && test n) (sym e)
    by_place false at =
        takes s ∙ ap (λ x. if x then (f s || b) else f s) at ∙ inv s ∙ ap (λ x. x && test s) (one_further s k at)

either : (x b : Bool) → (x || b) ≡ true → (x ≡ false → b ≡ true)
either true b e n = absurd (cc)
either false b e n = e

-- what holds of each slot of the set
pub grow_some : (f g : ℕ → Bool) (P : ℕ → Type 0) (k : ℕ) (b : Bool) → Takes f g k b → ((s : ℕ) → f s ≡ true → P s) → (b ≡ true → P k) → (s : ℕ) → g s ≡ true → P s
grow_some f g P k b takes inv is s h = by_place (s == k) refl (f s) refl
  where
    by_place : (x : Bool) → (s == k) ≡ x → (y : Bool) → f s ≡ y → P s
    by_place x at true was = inv s was
    by_place true at false was =
        let e = same_number s k at in
        let now : b ≡ true = either (f s) b (ap (λ x. if x then (f s || b) else f s) (sym at) ∙ sym (takes s) ∙ h) was in
        subst P (sym e) (is now)
    by_place false at false was =
        let now : f s ≡ true = ap (λ x. if x then (f s || b) else f s) (sym at) ∙ sym (takes s) ∙ h in absurd (cc)

or_right : (x b : Bool) → b ≡ true → (x || b) ≡ true
or_right true b e = refl
or_right false b e = e

-- the set holds each slot of which that holds
pub grow_all : (f g : ℕ → Bool) (P : ℕ → Type 0) (k : ℕ) (b : Bool) → Takes f g k b → ((s : ℕ) → s < k → P s → f s ≡ true) → (P k → b ≡ true) → (s : ℕ) → s < k + 1 → P s → g s ≡ true
grow_all f g P k b takes inv is s l h = by_place (s == k) refl
  where
    by_place : (x : Bool) → (s == k) ≡ x → g s ≡ true
    by_place true at =
        let e = same_number s k at in
        takes s ∙ ap (λ x. if x then (f s || b) else f s) at ∙ or_right (f s) b (is (subst P e h))
    by_place false at =
        let near : s < k = grind (arith, nat_tests) in
        takes s ∙ ap (λ x. if x then (f s || b) else f s) at ∙ inv s near h

swap : (x y : Bool) → (x && y) ≡ (y && x)
swap true true = refl
swap true false = refl
swap false true = refl
swap false false = refl

pub turn : (a b x y : Bool) → a ≡ x → b ≡ y → (a && b) ≡ (y && x)
turn a b x y e f = ap (λ u. u && b) e ∙ ap (λ u. x && u) f ∙ swap x y

pub both : (a b : Bool) → a ≡ true → b ≡ true → (a && b) ≡ true
both a b e f = ap (λ u. u && b) e ∙ f

pub same_both : (a b x y : Bool) → a ≡ x → b ≡ y → (a && b) ≡ (x && y)
same_both a b x y e f = ap (λ u. u && b) e ∙ ap (λ u. x && u) f

pub same_either : (a b x y : Bool) → a ≡ x → b ≡ y → (a || b) ≡ (x || y)
same_either a b x y e f = ap (λ u. u || b) e ∙ ap (λ u. x || u) f
