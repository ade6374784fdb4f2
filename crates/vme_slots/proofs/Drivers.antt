-- The drivers up to a slot, and the next slot.
use Rattle.std.proofs.Common.{◌≡◌, ℕ, suc, ◌+◌, ◌≤◌, List, [], ◌∷◌, ◌++◌, length, map, is_some, Bool, true, false, filter, sym, ◌∙◌, ap, append-nil, subst, arith, if◌then◌else◌, add-one, refl}
use Rattle.std.proofs.lemmas.List.{map-append, length-append}
use Rattle.std.proofs.lemmas.List.Elements.{filter-append}
use Rattle.vme_model.specs.declared.signals.Driver.{Driver}
use Rattle.vme_model.specs.declared.signals.Driver.TheVariants.{Controller, Slot}
use Rattle.vme_model.specs.Plan.{Plan, board, up_to}

abbrev pub drivers_to : Plan → ℕ → List Driver
drivers_to p n = Controller ∷ map (λ s. Slot s) (filter (λ s. is_some (board p s)) (up_to n))

next_driver : (p : Plan) (n : ℕ) (t : Bool) → is_some (board p (suc n)) ≡ t → drivers_to p (suc n) ≡ (if t then drivers_to p n ++ Slot (suc n) ∷ [] else drivers_to p n)
next_driver p n true is = rw (filter-append, is, map-append) refl
next_driver p n false is = rw (filter-append, is, append-nil) refl

next_driver_at : (p : Plan) (n m : ℕ) (t : Bool) → suc n ≡ m → is_some (board p m) ≡ t → drivers_to p m ≡ (if t then drivers_to p n ++ Slot m ∷ [] else drivers_to p n)
next_driver_at p n m t e = subst (λ (k : ℕ). is_some (board p k) ≡ t → drivers_to p k ≡ (if t then drivers_to p n ++ Slot k ∷ [] else drivers_to p n)) e (next_driver p n t)

pub with_driver : (p : Plan) (n : ℕ) (old new : List Driver) → is_some (board p (n + 1)) ≡ true → old ≡ drivers_to p n → new ≡ old ++ Slot (n + 1) ∷ [] → length old ≤ n + 1
    → (new ≡ drivers_to p (n + 1)) × (length new ≤ n + 1 + 1)
with_driver p n old new some all is few =
    let longer : length new ≡ length old + 1 = ap length is ∙ length-append old (Slot (n + 1) ∷ []) in
    (is ∙ ap (λ l. l ++ Slot (n + 1) ∷ []) all ∙ sym (next_driver_at p n (n + 1) true (sym (add-one n)) some), omega arith)

pub without_driver : (p : Plan) (n : ℕ) (old : List Driver) → is_some (board p (n + 1)) ≡ false → old ≡ drivers_to p n → length old ≤ n + 1 → (old ≡ drivers_to p (n + 1)) × (length old ≤ n + 1 + 1)
without_driver p n old none all few = (all ∙ sym (next_driver_at p n (n + 1) false (sym (add-one n)) none), omega arith)
