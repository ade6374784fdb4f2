-- The phases of a level in which nobody holds the bus, that are put in one level after the other.
use Rattle.std.proofs.Common.{◌≡◌, ◌∙◌, ◌<◌, ◌+◌, ℕ, Bool, true, false, refl, sym, ap, subst, arith}
use Rattle.std.specs.Prelude.{◌==◌, if◌then◌else◌}
use Rattle.std.proofs.lemmas.Bool.Decides.{nat_tests}
use Rattle.vme_bus.specs.declared.sets.SlotSet.{SlotSet}
use Rattle.vme_bus.specs.Sets.{has}
use Rattle.vme_model.proofs.Bools.{same_number}
use Rattle.vme_standings.specs.declared.phases.GrantPhase.{GrantPhase}
use Rattle.vme_standings.specs.declared.phases.GrantPhase.TheVariants.{Idle, Granting, Expired}
use Rattle.vme_standings.specs.declared.phases.GrantPhases.{GrantPhases}
use Rattle.vme_standings.specs.Cuts.{ChangesLevel}
use Rattle.vme_standings.specs.Phases.{expired_row, granting_row, is_idle_at}

-- what holds of the rows that are put in and of those that stay holds of the rows of each level
pub each_level : (k : ℕ) (is_idle : Bool) (lasts firsts : SlotSet) (old new : GrantPhases) → ChangesLevel k is_idle lasts firsts old new → (P : ℕ → Bool → SlotSet → SlotSet → Type 0)
    → P k is_idle lasts firsts
    → ((c : ℕ) → c < k → P c (is_idle_at old c) (granting_row old c) (expired_row old c))
    → (c : ℕ) → c < k + 1 → P c (is_idle_at new c) (granting_row new c) (expired_row new c)
each_level k is_idle lasts firsts old new change P here there c l = by_place (c == k) refl
  where
    put : (i j : Bool) (a b d e : SlotSet) → i ≡ j → a ≡ b → d ≡ e → P c j b e → P c i a d
    put i j a b d e f g h holds = subst (λ x. P c x a d) (sym f) (subst (λ x. P c j x d) (sym g) (subst (P c j b) (sym h) holds))

    by_place : (x : Bool) → (c == k) ≡ x → P c (is_idle_at new c) (granting_row new c) (expired_row new c)
    by_place true at =
        put (is_idle_at new c) is_idle (granting_row new c) lasts (expired_row new c) firsts
        (change.idle c ∙ ap (λ x. if x then is_idle else is_idle_at old c) at)
        (change.granting c ∙ ap (λ x. if x then lasts else granting_row old c) at)
        (change.expired c ∙ ap (λ x. if x then firsts else expired_row old c) at)
        (subst (λ n. P n is_idle lasts firsts) (sym (same_number c k at)) here)
    by_place false at =
        let near : c < k = grind (arith, nat_tests) in
        put (is_idle_at new c) (is_idle_at old c) (granting_row new c) (granting_row old c) (expired_row new c) (expired_row old c)
        (change.idle c ∙ ap (λ x. if x then is_idle else is_idle_at old c) at)
        (change.granting c ∙ ap (λ x. if x then lasts else granting_row old c) at)
        (change.expired c ∙ ap (λ x. if x then firsts else expired_row old c) at)
        (there c near)

-- the phases of the level pass the test
pub record PassesLevel (test : GrantPhase → Bool) (c : ℕ) (is_idle : Bool) (lasts firsts : SlotSet) : Type 0 where
  pub idle : is_idle ≡ test (Idle c)
  pub granting : (t : ℕ) → t < 32 → has lasts t ≡ test (Granting c t)
  pub expired : (t : ℕ) → t < 32 → has firsts t ≡ test (Expired c t)
