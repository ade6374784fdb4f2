-- One slot more in the walk along the acknowledge chain: `Fronts::with_hidden`.
use Rattle.std.proofs.Common.{◌≡◌, ◌≢◌, ◌∙◌, refl, sym, ap, subst, ℕ, Bool, true, false, List, [], ◌∷◌, ◌+◌, ◌<◌, ◌≤◌, Option, Some, None, arith, ⊎_elim}
use Rattle.std.specs.Prelude.{◌&&◌, ◌||◌, nat_lt, find, if◌then◌else◌, reverse}
use Rattle.std.proofs.lemmas.Bool.{cases_lt}
use Rattle.std.proofs.lemmas.Bool.Decides.{nat_tests}
use Rattle.vme_model.specs.declared.sets.ChainId.TheVariants.{Iack}
use Rattle.vme_model.specs.Plan.{Plan, active, upstream}
use Rattle.vme_standings.specs.Fronts.{place_of, input_place}
use Rattle.vme_standings.proofs.Tests.{or_true, or_false}

-- what is found passes the test
found : (f : ℕ → Bool) (xs : List ℕ) (t : ℕ) → find f xs ≡ Some t → f t ≡ true
found f [] t is = absurd (cc)
found f (x ∷ xs) t is = by_test (f x) refl is (found f xs t)
  where
    same : (a b : ℕ) → Some a ≡ Some b → a ≡ b
    same a b e = cc

    by_test : (b : Bool) → f x ≡ b → (if b then Some x else find f xs) ≡ Some t → (find f xs ≡ Some t → f t ≡ true) → f t ≡ true
    by_test true on h next = subst (λ y. f y ≡ true) (same x t h) on
    by_test false off h next = next h

-- a slot's input comes from below
pub from_below : (p : Plan) (s : ℕ) → 0 < s → input_place p s < s
from_below p s positive = by_found (upstream p Iack s) refl
  where
    below : (t : ℕ) → nat_lt t s ≡ true → t < s
    below t e = grind (arith, nat_tests)

    by_found : (o : Option ℕ) → upstream p Iack s ≡ o → place_of o < s
    by_found None is = positive
    by_found (Some t) is = below t (found (λ u. nat_lt u s) (reverse (active p Iack)) t is)

-- the slots below n hold what may move
abbrev pub Walked : (ℕ → Bool) → (ℕ → Bool) → (ℕ → ℕ) → (ℕ → Bool) → ℕ → Type 0
Walked old mover input ends n = (s : ℕ) → 0 < s → s < n → ends s ≡ (old s || (mover s && ends (input s)))

module _ (old mover : ℕ → Bool) (input : ℕ → ℕ) (less : (s : ℕ) → 0 < s → input s < s) (k : ℕ) (positive : 0 < k) where
  pub walked_on : (ends new : ℕ → Bool) → Walked old mover input ends k → (mover k && ends (input k)) ≡ true → new k ≡ true → ((s : ℕ) → s ≢ k → new s ≡ ends s)
      → Walked old mover input new (k + 1)
  walked_on ends new walked moves here others s from near = ⊎_elim below at (cases_lt s k)
    where
      input_same : (t : ℕ) → 0 < t → t ≤ k → new (input t) ≡ ends (input t)
      input_same t pos le = let l = less t pos in let ne : input t ≢ k = omega arith in others (input t) ne

      below : s < k → new s ≡ (old s || (mover s && new (input s)))
      below l =
          let ne : s ≢ k = omega arith in
          others s ne ∙ walked s from l ∙ ap (λ b. old s || (mover s && b)) (sym (input_same s from (omega arith)))

      at : k ≤ s → new s ≡ (old s || (mover s && new (input s)))
      at l =
          let same : s ≡ k = omega arith in
          ap new same ∙ here
          ∙ sym (or_true (old s) (mover s && new (input s))
          (ap (λ t. mover t && new (input t)) same ∙ ap (λ b. mover k && b) (input_same k positive (omega arith)) ∙ moves))

  pub walked_by : (ends : ℕ → Bool) → Walked old mover input ends k → (mover k && ends (input k)) ≡ false → ends k ≡ old k → Walked old mover input ends (k + 1)
  walked_by ends walked stays kept s from near = ⊎_elim (λ (l : s < k). walked s from l) at (cases_lt s k)
    where
      at : k ≤ s → ends s ≡ (old s || (mover s && ends (input s)))
      at l =
          let same : s ≡ k = omega arith in
          ap ends same ∙ kept ∙ sym (ap old same) ∙ sym (or_false (old s) (mover s && ends (input s)) (ap (λ t. mover t && ends (input t)) same ∙ stays))
