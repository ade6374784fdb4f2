-- The slots of an accepted plan are ones that there can be.
use Rattle.std.proofs.Common.{◌≡◌, sym, subst, refl, ℕ, zero, suc, ◌<◌, ◌≤◌, Bool, true, false, List, [], ◌∷◌, Option, Some, None, arith}
use Rattle.std.specs.Prelude.{find, nat_lt, if◌then◌else◌, reverse}
use Rattle.std.proofs.lemmas.List.{reverse-append}
use Rattle.std.specs.List.{All}
use Rattle.std.specs.Option.{option_map_or}
use Rattle.std.proofs.lemmas.Bool.Decides.{nat_tests}
use Rattle.std.proofs.lemmas.List.Elements.{All-nil, All-cons, All-head, All-tail, All-append, All-filter}
use Rattle.vme_model.specs.declared.boards.Row.{Row}
use Rattle.vme_model.specs.declared.sets.ChainId.{ChainId}
use Rattle.vme_model.specs.declared.signals.Driver.{Driver}
use Rattle.vme_model.specs.declared.signals.Driver.TheVariants.{Controller, Slot}
use Rattle.vme_model.specs.declared.signals.Wire.{Wire}
use Rattle.vme_model.specs.declared.signals.Wire.TheVariants.{Bg, Bclr, Iack, Berr, Br, BgOut, Bbsy, Addr, AddressStrobe, DataStrobe, Irq, IackOut, Dtack}
use Rattle.vme_model.specs.declared.signals.Edge.{Edge}
use Rattle.vme_model.specs.Signals.{has_wire, is_slot}
use Rattle.vme_model.specs.Plan.{Plan, board, drives, has_driver, up_to, active, is_active, upstream, last_active}
use Rattle.vme_model.specs.History.{drive, addressing}
use Rattle.vme_model.specs.Accepted.{IsAccepted}
use Rattle.vme_reasons.specs.Told.{is_driver}
use Rattle.vme_model.proofs.Ranges.{IsRowInRange, in_range}
use Rattle.vme_model.proofs.Members.{found_row}

is_within : (s : ℕ) → 1 ≤ s → s ≤ 21 → is_slot s ≡ true
is_within s low high = grind (arith, nat_tests)

-- a board's slot
pub slot_of_board : (p : Plan) → IsAccepted p → (s : ℕ) (r : Row) → board p s ≡ Some r → is_slot s ≡ true
slot_of_board p accepted s r is =
    let range = in_range p accepted in
    let most : p.slots ≤ 21 = range.most in
    let f = found_row (IsRowInRange p) p.rows s r range.rows is in
    let from : 1 ≤ s = subst (λ x. 1 ≤ x) f.slot f.fact.from_one in
    let to : s ≤ p.slots = subst (λ x. x ≤ p.slots) f.slot f.fact.to_last in
    is_within s from (omega arith)

-- a wire that a board drives is one of a board's
boards_wire : (s : ℕ) (w : Wire) (r : Row) → is_slot s ≡ true → drives w r ≡ true → has_wire (Slot s) w ≡ true
boards_wire s (Bg level) r slot h = absurd (cc)
boards_wire s Bclr r slot h = absurd (cc)
boards_wire s Iack r slot h = absurd (cc)
boards_wire s Berr r slot h = absurd (cc)
boards_wire s Br r slot h = slot
boards_wire s BgOut r slot h = slot
boards_wire s Bbsy r slot h = slot
boards_wire s Addr r slot h = slot
boards_wire s AddressStrobe r slot h = slot
boards_wire s DataStrobe r slot h = slot
boards_wire s Irq r slot h = slot
boards_wire s IackOut r slot h = slot
boards_wire s Dtack r slot h = slot

on_board : (p : Plan) → IsAccepted p → (s : ℕ) (w : Wire) (found : Option Row) → board p s ≡ found → option_map_or (drives w) found false ≡ true → has_wire (Slot s) w ≡ true
on_board p accepted s w None is h = absurd (cc)
on_board p accepted s w (Some r) is h = boards_wire s w r (slot_of_board p accepted s r is) h

pub wire_of_driver : (p : Plan) → IsAccepted p → (d : Driver) (w : Wire) → has_driver p d w ≡ true → has_wire d w ≡ true
wire_of_driver p accepted Controller w h = h
wire_of_driver p accepted (Slot s) w h = on_board p accepted s w (board p s) refl h

pub wire_of_board : (p : Plan) → IsAccepted p → (d : Driver) (w : Wire) (s : ℕ) (r : Row) → d ≡ Slot s → board p s ≡ Some r → drives w r ≡ true → has_wire d w ≡ true
wire_of_board p accepted d w s r at is h = subst (λ x. has_wire x w ≡ true) (sym at) (boards_wire s w r (slot_of_board p accepted s r is) h)

pub driver_of_board : (p : Plan) → IsAccepted p → (d : Driver) (s : ℕ) (r : Row) → d ≡ Slot s → board p s ≡ Some r → is_driver d ≡ true
driver_of_board p accepted d s r at is = subst (λ x. is_driver x ≡ true) (sym at) (slot_of_board p accepted s r is)

-- the slots up to the last
slots_below : (n : ℕ) → n ≤ 21 → All (λ s. is_slot s ≡ true) (up_to n)
slots_below zero h = All-nil (λ s. is_slot s ≡ true)
slots_below (suc n) h =
    All-append (λ s. is_slot s ≡ true) (up_to n) (suc n ∷ []) (slots_below n (omega arith))
    (All-cons (λ s. is_slot s ≡ true) (suc n) [] (is_within (suc n) (omega arith) h) (All-nil (λ s. is_slot s ≡ true)))

all_slots : (p : Plan) → IsAccepted p → All (λ s. is_slot s ≡ true) (up_to p.slots)
all_slots p accepted = slots_below p.slots (in_range p accepted).most

-- what is found is one of them
found_at : (P : ℕ → Type 0) (test : ℕ → Bool) (x : ℕ) (xs : List ℕ) (s : ℕ) (b : Bool) → test x ≡ b → (if b then Some x else find test xs) ≡ Some s → P x → (find test xs ≡ Some s → P s) → P s
found_at P test x xs s true e h here next = subst P (same x s h) here
  where
    same : (m n : ℕ) → Some m ≡ Some n → m ≡ n
    same m n e = cc
found_at P test x xs s false e h here next = next h

pub found_holds : (P : ℕ → Type 0) (test : ℕ → Bool) (xs : List ℕ) (s : ℕ) → All P xs → find test xs ≡ Some s → P s
found_holds P test [] s a h = absurd (cc)
found_holds P test (x ∷ xs) s a h = found_at P test x xs s (test x) refl h (All-head P x xs a) (found_holds P test xs s (All-tail P x xs a))

all_reversed : (P : ℕ → Type 0) (xs : List ℕ) → All P xs → All P (reverse xs)
all_reversed P [] a = a
all_reversed P (x ∷ xs) a = subst (All P) (sym (reverse-append (x ∷ []) xs)) (All-append P (reverse xs) (x ∷ []) (all_reversed P xs (All-tail P x xs a)) (All-cons P x [] (All-head P x xs a) (All-nil P)))

active_slots : (p : Plan) → IsAccepted p → (c : ChainId) → All (λ s. is_slot s ≡ true) (reverse (active p c))
active_slots p accepted c = all_reversed (λ s. is_slot s ≡ true) (active p c) (All-filter (is_active p.rows c) (λ s. is_slot s ≡ true) (up_to p.slots) (all_slots p accepted))

-- a slot from 1 to the last
pub slot_within : (p : Plan) → IsAccepted p → (s : ℕ) → 1 ≤ s → s ≤ p.slots → is_slot s ≡ true
slot_within p accepted s from to =
    let most : p.slots ≤ 21 = (in_range p accepted).most in
    is_within s from (omega arith)

pub below_22 : (s : ℕ) → is_slot s ≡ true → s < 22
below_22 s h = grind (arith, nat_tests)

pub upstream_slot : (p : Plan) → IsAccepted p → (c : ChainId) (s t : ℕ) → upstream p c s ≡ Some t → is_slot t ≡ true
upstream_slot p accepted c s t h = found_holds (λ x. is_slot x ≡ true) (λ x. nat_lt x s) (reverse (active p c)) t (active_slots p accepted c) h

pub last_slot : (p : Plan) → IsAccepted p → (c : ChainId) (t : ℕ) → last_active p c ≡ Some t → is_slot t ≡ true
last_slot p accepted c t h = found_holds (λ x. is_slot x ≡ true) (λ x. true) (reverse (active p c)) t (active_slots p accepted c) h

pub addressing_slot : (p : Plan) → IsAccepted p → (h : List Edge) (s : ℕ) → addressing p h ≡ Some s → is_slot s ≡ true
addressing_slot p accepted h s e = found_holds (λ x. is_slot x ≡ true) (λ x. drive h (Slot x) Addr) (up_to p.slots) s (all_slots p accepted) e
