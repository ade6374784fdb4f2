-- Slots counted, and scanned in ascending order.
use Rattle.std.proofs.Common.{◌≡◌, sym, refl, arith, Bool, true, false, ap, ℕ, zero, suc, ◌≤◌, ◌<◌, inl, inr, List, [], ◌∷◌, ◌++◌, ◌+◌, subst, map, length}
use Rattle.std.specs.Prelude.{◌==◌, if◌then◌else◌, Option, Some, None, find, filter, count_by}
use Rattle.std.specs.Option.{option_or}
use Rattle.std.proofs.lemmas.List.{map-append, length-append}
use Rattle.std.proofs.lemmas.List.Elements.{filter-append}
use Rattle.std.proofs.lemmas.List.Recursion.{is_count_by}
use Rattle.std.proofs.lemmas.Bool.{false≢true}
use Rattle.std.proofs.lemmas.Bool.Decides.{nat_tests}
use Rattle.std.proofs.lemmas.List.Folds.{find-append}
use Rattle.std.proofs.Math.Nat.{eq-or-lt_of_le}
use Rattle.vme_model.specs.declared.boards.Row.{Row}
use Rattle.vme_model.specs.declared.boards.Jumper.{Jumper}
use Rattle.vme_model.specs.Plan.{Plan, up_to}
use Rattle.vme_model.specs.Accepted.{first_of, when, namings}

-- the slots that are this one, counted by what names them
named : {X : Type 0} (slot_of : X → ℕ) (s : ℕ) (xs : List X) → length (filter (λ t. t == s) (map slot_of xs)) ≡ count_by (λ x. slot_of x == s) xs
named {X} slot_of s xs = is_count_by (λ (ys : List X). length (filter (λ t. t == s) (map slot_of ys))) (λ x. slot_of x == s) refl
    (λ y ys. one_more (slot_of y == s) (slot_of y) (filter (λ t. t == s) (map slot_of ys))) xs
  where
    one_more : (b : Bool) (t : ℕ) (ts : List ℕ) → length (if b then t ∷ ts else ts) ≡ (if b then 1 + length ts else length ts)
    one_more true t ts = omega arith
    one_more false t ts = refl

-- a slot's namings are its boards and its jumpers
pub namings_are : (p : Plan) (s : ℕ) → namings p s ≡ count_by (λ r. r.slot == s) p.rows + count_by (λ j. j.slot == s) p.jumpers
namings_are p s = rw (filter-append, length-append, named (λ (r : Row). r.slot) s p.rows, named (λ (j : Jumper). j.slot) s p.jumpers)

-- what holds of the slots below one, and of that one
pub up_to_here : (P : ℕ → Type 0) (s : ℕ) → ((k : ℕ) → 1 ≤ k → k < s → P k) → P s → (k : ℕ) → 1 ≤ k → k ≤ s → P k
up_to_here P s below here k low high =
    elim (eq-or-lt_of_le high) [
      | inl same ↦ subst P (sym same) here
      | inr less ↦ below k low less
    ]

-- no slot passes
pub find_up_to_none : (test : ℕ → Bool) (n : ℕ) → ((k : ℕ) → 1 ≤ k → k ≤ n → test k ≡ false) → find test (up_to n) ≡ None
find_up_to_none test zero h = refl
find_up_to_none test (suc n) h =
    let before : find test (up_to n) ≡ None = find_up_to_none test n (λ k low high. h k low (omega arith)) in
    let last : test (suc n) ≡ false = h (suc n) (omega arith) (omega arith) in
    rw (find-append, before, last)

-- the first slot that passes
pub find_up_to_first : (test : ℕ → Bool) (n s : ℕ) → 1 ≤ s → s ≤ n → test s ≡ true → ((k : ℕ) → 1 ≤ k → k < s → test k ≡ false) → find test (up_to n) ≡ Some s
find_up_to_first test zero s low high holds h = absurd (omega arith)
find_up_to_first test (suc n) s low high holds h =
    elim (eq-or-lt_of_le high) [
      | inl same ↦
          let before : find test (up_to n) ≡ None = find_up_to_none test n (λ k low high. h k low (omega arith)) in
          let last : test (suc n) ≡ true = rw same at holds in
          rw (find-append, before, last) (ap (λ k. Some k) (sym same))
      | inr less ↦
          let before : find test (up_to n) ≡ Some s = find_up_to_first test n s low (omega arith) holds h in
          rw (find-append, before)
    ]

-- what the first list gives, or what the second gives if the first gives nothing
pub first_of-append : {A : Type 0} (xs ys : List (Option A)) → first_of (xs ++ ys) ≡ option_or (first_of xs) (first_of ys)
first_of-append [] ys = refl
first_of-append (Some a ∷ xs) ys = refl
first_of-append (None ∷ xs) ys = first_of-append xs ys

-- there are slots, so the first list decides, and then the second
pub first_past : {A : Type 0} (n : ℕ) (a : A) (xs ys : List (Option A)) → (n ≡ 0 → ⊥) → first_of (when (n == 0) a ∷ xs ++ ys) ≡ option_or (first_of xs) (first_of ys)
first_past n a xs ys some = past (n == 0) (grind (arith, nat_tests, some))
  where
    past : (b : Bool) → b ≡ false → first_of (when b a ∷ xs ++ ys) ≡ option_or (first_of xs) (first_of ys)
    past true e = absurd (false≢true (sym e))
    past false e = first_of-append xs ys

-- no slot answers
pub first_up_to_none : {A : Type 0} (f : ℕ → Option A) (n : ℕ) → ((k : ℕ) → 1 ≤ k → k ≤ n → f k ≡ None) → first_of (map f (up_to n)) ≡ None
first_up_to_none f zero h = refl
first_up_to_none f (suc n) h =
    let before : first_of (map f (up_to n)) ≡ None = first_up_to_none f n (λ k low high. h k low (omega arith)) in
    let last : f (suc n) ≡ None = h (suc n) (omega arith) (omega arith) in
    rw (map-append, first_of-append, before, last)

-- what the first slot that answers gives
pub first_up_to_first : {A : Type 0} (f : ℕ → Option A) (n s : ℕ) (a : A) → 1 ≤ s → s ≤ n → f s ≡ Some a → ((k : ℕ) → 1 ≤ k → k < s → f k ≡ None) → first_of (map f (up_to n)) ≡ Some a
first_up_to_first f zero s a low high gives h = absurd (omega arith)
first_up_to_first f (suc n) s a low high gives h =
    elim (eq-or-lt_of_le high) [
      | inl same ↦
          let before : first_of (map f (up_to n)) ≡ None = first_up_to_none f n (λ k low high. h k low (omega arith)) in
          let last : f (suc n) ≡ Some a = rw same at gives in
          rw (map-append, first_of-append, before, last)
      | inr less ↦
          let before : first_of (map f (up_to n)) ≡ Some a = first_up_to_first f n s a low (omega arith) gives h in
          rw (map-append, first_of-append, before)
    ]
