-- One slot more in a walk along a grant chain, each step from the slot before.
use Rattle.std.proofs.Common.{◌≡◌, ◌∙◌, ◌<◌, ◌+◌, ℕ, Bool, true, false, refl, sym, ap, arith}
use Rattle.std.specs.Prelude.{◌&&◌, ◌||◌, ◌==◌, nat_lt, if◌then◌else◌}
use Rattle.std.proofs.lemmas.Bool.Decides.{nat_tests}
use Rattle.vme_model.specs.Accepted.{IsAccepted}
use Rattle.vme_model.specs.Plan.{Plan}
use Rattle.vme_bus.specs.declared.sets.SlotSet.{SlotSet}
use Rattle.vme_bus.specs.Sets.{has}
use Rattle.vme_model.proofs.Bools.{and_left, is_false, same_number}
use Rattle.vme_standings.specs.GrantChains.{is_of_level}
use Rattle.vme_standings.proofs.Growing.{Takes}
use Rattle.vme_standings.proofs.Slots.{level_below}

-- the steps to the slots below k are made
abbrev pub Walked : (ℕ → Bool) → (ℕ → Bool) → (ℕ → ℕ) → (ℕ → Bool) → ℕ → Type 0
Walked from steps before f k = (t : ℕ) → f t ≡ (from t || ((nat_lt t k && steps t) && f (before t)))

none : (a : Bool) → a ≡ (a || false)
none true = refl
none false = refl

not_below : (t : ℕ) → nat_lt t 0 ≡ false
not_below t = grind (arith, nat_tests)

pub not_yet : (from steps : ℕ → Bool) (before : ℕ → ℕ) → Walked from steps before from 0
not_yet from steps before t = none (from t) ∙ ap (λ b. from t || ((b && steps t) && from (before t))) (sym (not_below t))

guarded : (x a b : Bool) → (x ≡ true → a ≡ b) → (x && a) ≡ (x && b)
guarded true a b e = e refl
guarded false a b e = refl

itself : (k : ℕ) → nat_lt k k ≡ false
itself k = grind (arith, nat_tests)

next : (k : ℕ) → nat_lt k (k + 1) ≡ true
next k = grind (arith, nat_tests)

further : (t k : ℕ) → (t == k) ≡ false → nat_lt t k ≡ nat_lt t (k + 1)
further t k is = grind (arith, nat_tests)

less_not : (s k : ℕ) → s < k → (s == k) ≡ false
less_not s k l = grind (arith, nat_tests)

near : (t k : ℕ) → nat_lt t k ≡ true → t < k
near t k is = grind (arith, nat_tests)

module _ (from steps : ℕ → Bool) (before : ℕ → ℕ) (less : (t : ℕ) → steps t ≡ true → before t < t) (old new : ℕ → Bool) (k : ℕ) (b : Bool) (takes : Takes old new k b) where
  elsewhere : (s : ℕ) → (s == k) ≡ false → new s ≡ old s
  elsewhere s is = takes s ∙ ap (λ x. if x then (old s || b) else old s) is

  here : (t : ℕ) → (t == k) ≡ true → new t ≡ (old t || b)
  here t is = takes t ∙ ap (λ x. if x then (old t || b) else old t) is

  pub walk_step : Walked from steps before old k → b ≡ (steps k && old (before k)) → Walked from steps before new (k + 1)
  walk_step inv is t = by_place (t == k) refl
    where
      before_same : steps k ≡ true → new (before k) ≡ old (before k)
      before_same s = elsewhere (before k) (less_not (before k) k (less k s))

      was : old k ≡ from k
      was = inv k ∙ ap (λ x. from k || ((x && steps k) && old (before k))) (itself k) ∙ sym (none (from k))

      at_k : (old k || b) ≡ (from k || ((nat_lt k (k + 1) && steps k) && new (before k)))
      at_k =
          ap (λ x. x || b) was ∙ ap (λ x. from k || x) is
          ∙ ap (λ x. from k || x) (sym (guarded (steps k) (new (before k)) (old (before k)) before_same))
          ∙ ap (λ x. from k || ((x && steps k) && new (before k))) (sym (next k))

      below_same : nat_lt t k ≡ true → steps t ≡ true → new (before t) ≡ old (before t)
      below_same l s =
          let u = less t s in
          let v = near t k l in
          elsewhere (before t) (less_not (before t) k (omega arith))

      both_true : (x y : Bool) → (x && y) ≡ true → (x ≡ true) × (y ≡ true)
      both_true true true e = (refl, refl)
      both_true true false e = absurd (cc)
      both_true false y e = absurd (cc)

      by_place : (x : Bool) → (t == k) ≡ x → new t ≡ (from t || ((nat_lt t (k + 1) && steps t) && new (before t)))
      by_place true at =
          let e = same_number t k at in
          here t at ∙ ap (λ n. old n || b) e ∙ at_k ∙ ap (λ n. from n || ((nat_lt n (k + 1) && steps n) && new (before n))) (sym e)
      by_place false at =
          elsewhere t at ∙ inv t
          ∙ ap (λ x. from t || x) (sym (guarded (nat_lt t k && steps t) (new (before t)) (old (before t)) (λ h. let w = both_true (nat_lt t k) (steps t) h in below_same w.0 w.1)))
          ∙ ap (λ x. from t || ((x && steps t) && new (before t))) (further t k at)

-- the steps are to boards of a level, which are in the slots that a backplane can have
pub below_end : (p : Plan) → IsAccepted p → (c : ℕ) (steps : ℕ → Bool) → ((t : ℕ) → steps t ≡ true → is_of_level p c t ≡ true) → (t : ℕ) → (nat_lt t 22 && steps t) ≡ steps t
below_end p ok c steps level t = by_step (steps t) refl
  where
    by_step : (x : Bool) → steps t ≡ x → (nat_lt t 22 && steps t) ≡ steps t
    by_step true is = ap (λ b. b && steps t) (and_left (nat_lt t 22) (is_of_level p c t) (level_below p ok c t ∙ level t is))
    by_step false is = ap (λ b. nat_lt t 22 && b) is ∙ no (nat_lt t 22) ∙ sym is
      where
        no : (x : Bool) → (x && false) ≡ false
        no true = refl
        no false = refl

no_step : (x b : Bool) → b ≡ false → (x && b) ≡ false
no_step true b e = e
no_step false b e = refl

-- where there is nothing, no step is made
pub nothing : (from first steps : ℕ → Bool) (before : ℕ → ℕ) → ((t : ℕ) → from t ≡ first t) → ((t : ℕ) → from t ≡ false) → (t : ℕ) → from t ≡ (first t || (steps t && from (before t)))
nothing from first steps before is empty t =
    is t ∙ none (first t) ∙ ap (λ x. first t || x) (sym (no_step (steps t) (from (before t)) (empty (before t))))

-- a set that holds nothing
pub none_there : (s : SlotSet) (is_some : Bool) → is_some ≡ false → ((u : ℕ) → has s u ≡ true → is_some ≡ true) → (u : ℕ) → has s u ≡ false
none_there s is_some off none u = is_false (has s u) (λ h. let e = none u h in cc)

-- the same walk from and by sets that are alike
pub walks_alike : (from first held steps reached : ℕ → Bool) (before : ℕ → ℕ) → ((t : ℕ) → from t ≡ first t) → ((t : ℕ) → held t ≡ steps t)
    → ((t : ℕ) → reached t ≡ (from t || (held t && reached (before t)))) → (t : ℕ) → reached t ≡ (first t || (steps t && reached (before t)))
walks_alike from first held steps reached before is same walked t =
    walked t ∙ ap (λ x. x || (held t && reached (before t))) (is t) ∙ ap (λ x. first t || (x && reached (before t))) (same t)
