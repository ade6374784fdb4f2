-- The rows of a set of phases that are put in one after the other.
use Rattle.std.proofs.Common.{◌≡◌, ◌∙◌, ℕ, Bool, true, false, List, [], ◌∷◌, ◌+◌, ◌<◌, refl, sym, ap, subst, arith}
use Rattle.std.specs.Prelude.{◌==◌, ◌&&◌, if◌then◌else◌, nat_lt, slice_index_or}
use Rattle.std.specs.List.{list_any}
use Rattle.std.proofs.lemmas.Bool.Decides.{nat_tests}
use Rattle.vme_bus.specs.declared.sets.SlotSet.{SlotSet}
use Rattle.vme_bus.specs.Sets.{has}
use Rattle.vme_model.proofs.Bools.{same_number}
use Rattle.vme_standings.specs.declared.phases.GrantPhase.{GrantPhase}
use Rattle.vme_standings.specs.declared.phases.GrantPhase.TheVariants.{Idle, Granting, Held, Expired}
use Rattle.vme_standings.specs.declared.phases.GrantPhases.{GrantPhases}
use Rattle.vme_standings.specs.Phases.{ChangesExpired, ChangesGranting, ChangesHeld, ChangesIdle, HasExactly, HasFree, expired_row, granting_row, held_row, is_held, is_held_by, is_idle_at, no_slots}

-- a row of a holder says nothing of a free bus
pub free_kept : (k : ℕ) (firsts : SlotSet) (old new : GrantPhases) (test : GrantPhase → Bool) → ChangesHeld k firsts old new → HasFree old test → HasFree new test
free_kept k firsts old new test change free = record {
  idle = λ c l. ap (λ xs. slice_index_or xs c false) change.idle ∙ free.idle c l;
  granting = λ c t l m. ap (λ xs. has (slice_index_or xs c no_slots) t) change.granting ∙ free.granting c t l m;
  expired = λ c t l m. ap (λ xs. has (slice_index_or xs c no_slots) t) change.expired ∙ free.expired c t l m;
}

-- the rows below k are as they are to be
abbrev pub AreMade : GrantPhases → ℕ → (ℕ → ℕ → Bool) → Type 0
AreMade s k test = (b t : ℕ) → b < k → t < 32 → has (held_row s b) t ≡ test b t

pub held_step : (k : ℕ) (firsts : SlotSet) (old new : GrantPhases) (test : ℕ → ℕ → Bool) → ChangesHeld k firsts old new → AreMade old k test → ((t : ℕ) → t < 32 → has firsts t ≡ test k t)
    → AreMade new (k + 1) test
held_step k firsts old new test change made here b t l m = by_place (b == k) refl
  where
    by_place : (x : Bool) → (b == k) ≡ x → has (held_row new b) t ≡ test b t
    by_place true at =
        ap (λ r. has r t) (change.held b) ∙ ap (λ x. has (if x then firsts else held_row old b) t) at ∙ here t m ∙ ap (λ n. test n t) (sym (same_number b k at))
    by_place false at =
        let near : b < k = grind (arith, nat_tests) in
        ap (λ r. has r t) (change.held b) ∙ ap (λ x. has (if x then firsts else held_row old b) t) at ∙ made b t near m

-- what holds of the row that is put in and of those that stay holds of each row
pub each_row : (k : ℕ) (firsts : SlotSet) (old new : GrantPhases) → ChangesHeld k firsts old new → (P : ℕ → SlotSet → Type 0) → P k firsts → ((b : ℕ) → (b == k) ≡ false → P b (held_row old b))
    → (b : ℕ) → P b (held_row new b)
each_row k firsts old new change P here there b = by_place (b == k) refl
  where
    by_place : (x : Bool) → (b == k) ≡ x → P b (held_row new b)
    by_place true at =
        let e = same_number b k at in
        let row : held_row new b ≡ firsts = change.held b ∙ ap (λ x. if x then firsts else held_row old b) at in
        subst (P b) (sym row) (subst (λ n. P n firsts) (sym e) here)
    by_place false at =
        let row : held_row new b ≡ held_row old b = change.held b ∙ ap (λ x. if x then firsts else held_row old b) at in
        subst (P b) (sym row) (there b at)

-- a board of which nothing is said holds nothing
pub not_by : (test : ℕ → Bool) (q : GrantPhase) → is_held q ≡ false → is_held_by test q ≡ false
not_by test (Idle c) e = refl
not_by test (Granting c t) e = refl
not_by test (Held b t) e = absurd (cc)
not_by test (Expired c t) e = refl

pub idle_step : (k : ℕ) (may_be : Bool) (old new : GrantPhases) (test : ℕ → Bool) → ChangesIdle k may_be old new → ((c : ℕ) → c < k → is_idle_at old c ≡ test c) → may_be ≡ test k → (c : ℕ) → c < k + 1
    → is_idle_at new c ≡ test c
idle_step k may_be old new test change made here c l = by_place (c == k) refl
  where
    by_place : (x : Bool) → (c == k) ≡ x → is_idle_at new c ≡ test c
    by_place true at =
        change.idle c ∙ ap (λ x. if x then may_be else is_idle_at old c) at ∙ here ∙ ap test (sym (same_number c k at))
    by_place false at =
        let near : c < k = grind (arith, nat_tests) in
        change.idle c ∙ ap (λ x. if x then may_be else is_idle_at old c) at ∙ made c near

pub any_same : (f g : ℕ → Bool) → ((n : ℕ) → f n ≡ g n) → (xs : List ℕ) → list_any f xs ≡ list_any g xs
any_same f g e [] = refl
any_same f g e (x ∷ xs) = rw (e x, any_same f g e xs) refl

pub near_is : (n : ℕ) → n < 4 → (b : Bool) → b ≡ (nat_lt n 4 && b)
near_is n l b = let e : nat_lt n 4 ≡ true = grind (arith, nat_tests) in rw e refl

last : (y : Bool) → y ≡ (true && y && true)
last true = refl
last false = refl

-- a row of a level alone
pub granting_only : (c : ℕ) (row : SlotSet) (f : ℕ → Bool) (old new : GrantPhases) (b : Bool) → ChangesGranting c row old new → HasExactly old (λ q. false) → ((t : ℕ) → has row t ≡ f t) → b ≡ true
    → (n t : ℕ) → n < 4 → t < 32 → has (granting_row new n) t ≡ (n == c && f t && b)
granting_only c row f old new b change none is so n t l m = by_place (n == c) refl
  where
    by_place : (x : Bool) → (n == c) ≡ x → has (granting_row new n) t ≡ (n == c && f t && b)
    by_place true at =
        ap (λ r. has r t) (change.granting n) ∙ ap (λ x. has (if x then row else granting_row old n) t) at ∙ is t ∙ last (f t) ∙ ap (λ x. true && f t && x) (sym so) ∙ ap (λ x. x && f t && b) (sym at)
    by_place false at =
        ap (λ r. has r t) (change.granting n) ∙ ap (λ x. has (if x then row else granting_row old n) t) at ∙ none.granting n t l m ∙ ap (λ x. x && f t && b) (sym at)

-- a set to which a row of a grant under way was added
pub granting_added : (c : ℕ) (row : SlotSet) (old new : GrantPhases) → ChangesGranting c row old new → HasExactly old (λ q. false) → ((n : ℕ) → n < 4 → is_idle_at new n ≡ false)
    × ((b t : ℕ) → b < 22 → t < 32 → has (held_row new b) t ≡ false) × ((n t : ℕ) → n < 4 → t < 32 → has (expired_row new n) t ≡ false)
granting_added c row old new change none = (
  λ n l. ap (λ xs. slice_index_or xs n false) change.idle ∙ none.idle n l,
  λ b t l m. ap (λ xs. has (slice_index_or xs b no_slots) t) change.held ∙ none.held b t l m,
  λ n t l m. ap (λ xs. has (slice_index_or xs n no_slots) t) change.expired ∙ none.expired n t l m,
)

pub expired_only : (c : ℕ) (row : SlotSet) (f : ℕ → Bool) (old new : GrantPhases) (b : Bool) → ChangesExpired c row old new → ((n t : ℕ) → n < 4 → t < 32 → has (expired_row old n) t ≡ false)
    → ((t : ℕ) → has row t ≡ f t) → b ≡ true → (n t : ℕ) → n < 4 → t < 32 → has (expired_row new n) t ≡ (n == c && b && f t)
expired_only c row f old new b change none is so n t l m = by_place (n == c) refl
  where
    by_place : (x : Bool) → (n == c) ≡ x → has (expired_row new n) t ≡ (n == c && b && f t)
    by_place true at =
        ap (λ r. has r t) (change.expired n) ∙ ap (λ x. has (if x then row else expired_row old n) t) at ∙ is t ∙ ap (λ x. true && x && f t) (sym so) ∙ ap (λ x. x && b && f t) (sym at)
    by_place false at =
        ap (λ r. has r t) (change.expired n) ∙ ap (λ x. has (if x then row else expired_row old n) t) at ∙ none n t l m ∙ ap (λ x. x && b && f t) (sym at)

pub idle_only : (c : ℕ) (may_be e : Bool) (old new : GrantPhases) (b : Bool) → ChangesIdle c may_be old new → ((n : ℕ) → n < 4 → is_idle_at old n ≡ false) → may_be ≡ e → b ≡ true → (n : ℕ) → n < 4
    → is_idle_at new n ≡ (n == c && b && e)
idle_only c may_be e old new b change none is so n l = by_place (n == c) refl
  where
    by_place : (x : Bool) → (n == c) ≡ x → is_idle_at new n ≡ (n == c && b && e)
    by_place true at =
        change.idle n ∙ ap (λ x. if x then may_be else is_idle_at old n) at ∙ is ∙ ap (λ x. true && x && e) (sym so) ∙ ap (λ x. x && b && e) (sym at)
    by_place false at =
        change.idle n ∙ ap (λ x. if x then may_be else is_idle_at old n) at ∙ none n l ∙ ap (λ x. x && b && e) (sym at)
