-- The slots of an accepted plan's boards and chains are ones that there can be.
use Rattle.std.proofs.Common.{◌≡◌, sym, subst, ℕ, ◌<◌, true, List, [], ◌∷◌, Some, arith}
use Rattle.std.specs.Prelude.{nat_lt, reverse}
use Rattle.std.proofs.lemmas.List.{reverse-append}
use Rattle.std.specs.List.{All}
use Rattle.std.proofs.lemmas.Bool.Decides.{nat_tests}
use Rattle.std.proofs.lemmas.List.Elements.{All-nil, All-cons, All-head, All-tail, All-append, All-filter}
use Rattle.vme_model.specs.declared.boards.Row.{Row}
use Rattle.vme_model.specs.declared.sets.ChainId.{ChainId}
use Rattle.vme_model.specs.declared.signals.Driver.{Driver}
use Rattle.vme_model.specs.declared.signals.Driver.TheVariants.{Slot}
use Rattle.vme_model.specs.Signals.{is_slot}
use Rattle.vme_model.specs.Plan.{Plan, board, up_to, active, is_active, upstream, last_active}
use Rattle.vme_model.specs.Accepted.{IsAccepted}
use Rattle.vme_explain.specs.Witnessed.{is_driver}
use Rattle.vme_bus.proofs.PlanSlots.{all_slots, found_holds, slot_of_board}

pub driver_of_board : (p : Plan) → IsAccepted p → (d : Driver) (s : ℕ) (r : Row) → d ≡ Slot s → board p s ≡ Some r → is_driver d ≡ true
driver_of_board p accepted d s r at is = subst (λ x. is_driver x ≡ true) (sym at) (slot_of_board p accepted s r is)

all_reversed : (P : ℕ → Type 0) (xs : List ℕ) → All P xs → All P (reverse xs)
all_reversed P [] a = a
all_reversed P (x ∷ xs) a = subst (All P) (sym (reverse-append (x ∷ []) xs)) (All-append P (reverse xs) (x ∷ []) (all_reversed P xs (All-tail P x xs a))
    (All-cons P x [] (All-head P x xs a) (All-nil P)))

active_slots : (p : Plan) → IsAccepted p → (c : ChainId) → All (λ s. is_slot s ≡ true) (reverse (active p c))
active_slots p accepted c = all_reversed (λ s. is_slot s ≡ true) (active p c) (All-filter (is_active p.rows c) (λ s. is_slot s ≡ true) (up_to p.slots) (all_slots p accepted))

pub below_22 : (s : ℕ) → is_slot s ≡ true → s < 22
below_22 s h = grind (arith, nat_tests)

pub upstream_slot : (p : Plan) → IsAccepted p → (c : ChainId) (s t : ℕ) → upstream p c s ≡ Some t → is_slot t ≡ true
upstream_slot p accepted c s t h = found_holds (λ x. is_slot x ≡ true) (λ x. nat_lt x s) (reverse (active p c)) t (active_slots p accepted c) h

pub last_slot : (p : Plan) → IsAccepted p → (c : ChainId) (t : ℕ) → last_active p c ≡ Some t → is_slot t ≡ true
last_slot p accepted c t h = found_holds (λ x. is_slot x ≡ true) (λ x. true) (reverse (active p c)) t (active_slots p accepted c) h
