-- What is considered after a history.
use Rattle.std.proofs.Common.{◌≡◌, ◌∙◌, refl, sym, ap, subst, arith, Bool, true, false, List, [], ◌∷◌, ◌++◌, ◌+◌, ◌<◌, ◌≤◌, ℕ, zero, suc, map}
use Rattle.std.specs.Prelude.{◌&&◌, ◌==◌, if◌then◌else◌, Option, Some, None, find, nat_lt, is_some, option_map}
use Rattle.std.specs.Option.{option_map_or, option_or, option_to_list}
use Rattle.std.proofs.lemmas.Bool.Decides.{nat_tests}
use Rattle.std.proofs.lemmas.List.Folds.{find-append}
use Rattle.vme_model.specs.declared.boards.Row.{Row}
use Rattle.vme_model.specs.declared.sets.Levels.{Levels}
use Rattle.vme_model.specs.declared.signals.Driver.TheVariants.{Slot}
use Rattle.vme_model.specs.declared.signals.Cycle.{Cycle}
use Rattle.vme_model.specs.declared.signals.Cycle.TheVariants.{Acknowledge, Access}
use Rattle.vme_model.specs.declared.signals.Edge.{Edge}
use Rattle.vme_model.specs.Plan.{Plan, board, up_to}
use Rattle.vme_model.specs.Offers.{cycles_of, going_on, next_board, wanted}
use Rattle.vme_model.specs.Open.{showing}
use Rattle.vme_model.proofs.Bools.{same_number}

-- each slot is above 0
pub find_above_zero : (test : ℕ → Bool) (n : ℕ) → find (λ t. nat_lt 0 t && test t) (up_to n) ≡ find test (up_to n)
find_above_zero test zero = refl
find_above_zero test (suc n) =
    let above : nat_lt 0 (suc n) ≡ true = grind (arith, nat_tests) in
    let last : find (λ t. nat_lt 0 t && test t) (suc n ∷ []) ≡ find test (suc n ∷ []) = rw above in
    rw (find-append, find-append, find_above_zero test n, last)

-- one more number that fails the test
pub none_up_to : (test : ℕ → Bool) (n : ℕ) → ((k : ℕ) → 1 ≤ k → k < n → test k ≡ false) → test n ≡ false → (k : ℕ) → 1 ≤ k → k < n + 1 → test k ≡ false
none_up_to test n below last k from to = by_place (k == n) refl
  where
    by_place : (b : Bool) → (k == n) ≡ b → test k ≡ false
    by_place true is = let same : k ≡ n = grind (arith, nat_tests) in ap test same ∙ last
    by_place false is = let apart : k < n = grind (arith, nat_tests) in below k from apart

pub next : (p : Plan) (s : ℕ) (a b : Option ℕ) → a ≡ find (λ t. nat_lt s t && is_some (board p t)) (up_to p.slots) → b ≡ find (λ t. nat_lt 0 t && is_some (board p t)) (up_to p.slots)
    → option_or a b ≡ next_board p s
next p s a b is_a is_b =
    ap (λ o. option_or o b) is_a
    ∙ ap (λ o. option_or (find (λ t. nat_lt s t && is_some (board p t)) (up_to p.slots)) o) (is_b ∙ find_above_zero (λ t. is_some (board p t)) p.slots)

-- the board that is found stands in the slot
found_first : (row r : Row) (s : ℕ) (b : Bool) (rest : Option Row) → (row.slot == s) ≡ b → (if b then Some row else rest) ≡ Some r → (rest ≡ Some r → r.slot ≡ s) → r.slot ≡ s
found_first row r s true rest is e next = let same : row ≡ r = cc in subst (λ (x : Row). x.slot ≡ s) same (same_number row.slot s is)
found_first row r s false rest is e next = next e

found_slot : (rows : List Row) (s : ℕ) (r : Row) → find (λ x. x.slot == s) rows ≡ Some r → r.slot ≡ s
found_slot [] s r e = absurd (cc)
found_slot (row ∷ rows) s r e = found_first row r s (row.slot == s) (find (λ x. x.slot == s) rows) refl e (found_slot rows s r)

-- the address group going on with an acknowledge, and with an access
two_shown : (f : Cycle → Edge) (v t : Option ℕ) →
    map f (option_to_list (option_map (λ x. Acknowledge x) v) ++ option_to_list (option_map (λ x. Access x) t)) ≡ map (λ x. f (Acknowledge x)) (option_to_list v)
    ++ map (λ x. f (Access x)) (option_to_list t)
two_shown f None None = refl
two_shown f None (Some t) = refl
two_shown f (Some v) None = refl
two_shown f (Some v) (Some t) = refl

-- with what the address group may go on, if the board handles these levels
pub record GoesOn (p : Plan) (h : List Edge) (s : ℕ) (handled : Levels) : Type 0 where
  pub row : Row
  pub handles : row.handler ≡ handled
  pub shows : map (λ v. showing (Slot s) (Acknowledge v)) (option_to_list (wanted p h row)) ++ map (λ t. showing (Slot s) (Access t)) (option_to_list (next_board p s)) ≡ going_on p h (Slot s)

pub goes_on : (p : Plan) (h : List Edge) (s : ℕ) (handled : Levels) → option_map (λ r. r.handler) (board p s) ≡ Some handled → GoesOn p h s handled
goes_on p h s handled is = by_row (board p s) refl is
  where
    by_row : (o : Option Row) → board p s ≡ o → option_map (λ r. r.handler) o ≡ Some handled → GoesOn p h s handled
    by_row None found is = absurd (cc)
    by_row (Some r) found is = record {
      row = r;
      handles = cc;
      shows =
          ap (λ t. map (λ v. showing (Slot s) (Acknowledge v)) (option_to_list (wanted p h r)) ++ map (λ t. showing (Slot s) (Access t)) (option_to_list (next_board p t)))
          (sym (found_slot p.rows s r found))
          ∙ sym (two_shown (showing (Slot s)) (wanted p h r) (next_board p r.slot))
          ∙ sym (ap (λ (o : Option Row). option_map_or (λ x. map (showing (Slot s)) (cycles_of p h x)) o []) found);
    }

-- without a board the address group does not go on
pub goes_on_none : (p : Plan) (h : List Edge) (s : ℕ) → option_map (λ r. r.handler) (board p s) ≡ None → going_on p h (Slot s) ≡ []
goes_on_none p h s none = by_row (board p s) none
  where
    by_row : (o : Option Row) → option_map (λ r. r.handler) o ≡ None → option_map_or (λ x. map (showing (Slot s)) (cycles_of p h x)) o [] ≡ []
    by_row None none = refl
    by_row (Some r) none = absurd (cc)
