-- The slots of an accepted plan are ones that there can be, and so is who is found among them; what is shown is in range: `Bus::holder`, `addressing`, `shown`.
use Rattle.std.proofs.Common.{◌≡◌, ◌∙◌, sym, subst, refl, ℕ, zero, suc, ◌≤◌, Bool, true, false, List, [], ◌∷◌, Option, Some, None, Ok, arith}
use Rattle.std.specs.Prelude.{find, if◌then◌else◌, IfSome, IsTrue}
use Rattle.std.specs.List.{All}
use Rattle.std.specs.Option.{option_and_then, option_map_or}
use Rattle.std.proofs.lemmas.Bool.Decides.{nat_tests}
use Rattle.std.proofs.lemmas.List.Elements.{All-nil, All-cons, All-head, All-tail, All-append}
use Rattle.vme_model.specs.declared.boards.Row.{Row}
use Rattle.vme_model.specs.declared.signals.Version.{Version}
use Rattle.vme_model.specs.declared.signals.Driver.{Driver}
use Rattle.vme_model.specs.declared.signals.Driver.TheVariants.{Controller, Slot}
use Rattle.vme_model.specs.declared.signals.Wire.{Wire}
use Rattle.vme_model.specs.declared.signals.Wire.TheVariants.{Bg, Bclr, Iack, Berr, Br, BgOut, Bbsy, Addr, AddressStrobe, DataStrobe, Irq, IackOut, Dtack}
use Rattle.vme_model.specs.declared.signals.Cycle.{Cycle}
use Rattle.vme_model.specs.declared.signals.Edge.{Edge}
use Rattle.vme_model.specs.declared.refusals.Refused.TheVariants.{NoSuchDriver}
use Rattle.vme_model.specs.Signals.{has_wire, has_value, is_edge_of, is_in_range, is_same_driver, is_same_wire, is_slot, is_well_formed}
use Rattle.vme_model.specs.Plan.{Plan, board, drives, has_driver, up_to}
use Rattle.vme_model.specs.History.{addressing, drive, last_value, shown}
use Rattle.vme_model.specs.Accepted.{IsAccepted}
use Rattle.vme_model.specs.Stands.{holder}
use Rattle.vme_model.specs.Verdict.{IsLegal, verdict_but_full}
use Rattle.vme_model.proofs.AllowedEdges.{checked}
use Rattle.vme_model.proofs.Bools.{and_left, and_right, is_true, never}
use Rattle.vme_model.proofs.Members.{found_row}
use Rattle.vme_model.proofs.Ranges.{IsRowInRange, in_range}
use Rattle.vme_histories.proofs.Drivers.{never_drove}

is_within : (s : ℕ) → 1 ≤ s → s ≤ 21 → is_slot s ≡ true
is_within s low high = grind (arith, nat_tests)

-- a board's slot
pub slot_of_board : (p : Plan) → IsAccepted p → (s : ℕ) (r : Row) → board p s ≡ Some r → is_slot s ≡ true
slot_of_board p accepted s r is =
    let range = in_range p accepted in
    let most : p.slots ≤ 21 = range.most in
    let f = found_row (IsRowInRange p) p.rows s r range.rows is in
    let from : 1 ≤ s = subst (λ x. 1 ≤ x) f.slot f.fact.from_one in
    let to : s ≤ p.slots = subst (λ x. x ≤ p.slots) f.slot f.fact.to_last in
    is_within s from (omega arith)

-- a wire that a board drives is one of a board's
boards_wire : (s : ℕ) (w : Wire) (r : Row) → is_slot s ≡ true → drives w r ≡ true → has_wire (Slot s) w ≡ true
boards_wire s (Bg level) r slot h = absurd (cc)
boards_wire s Bclr r slot h = absurd (cc)
boards_wire s Iack r slot h = absurd (cc)
boards_wire s Berr r slot h = absurd (cc)
boards_wire s Br r slot h = slot
boards_wire s BgOut r slot h = slot
boards_wire s Bbsy r slot h = slot
boards_wire s Addr r slot h = slot
boards_wire s AddressStrobe r slot h = slot
boards_wire s DataStrobe r slot h = slot
boards_wire s Irq r slot h = slot
boards_wire s IackOut r slot h = slot
boards_wire s Dtack r slot h = slot

on_board : (p : Plan) → IsAccepted p → (s : ℕ) (w : Wire) (found : Option Row) → board p s ≡ found → option_map_or (drives w) found false ≡ true → has_wire (Slot s) w ≡ true
on_board p accepted s w None is h = absurd (cc)
on_board p accepted s w (Some r) is h = boards_wire s w r (slot_of_board p accepted s r is) h

pub wire_of_driver : (p : Plan) → IsAccepted p → (d : Driver) (w : Wire) → has_driver p d w ≡ true → has_wire d w ≡ true
wire_of_driver p accepted Controller w h = h
wire_of_driver p accepted (Slot s) w h = on_board p accepted s w (board p s) refl h

-- and so is one that is low after a legal list
pub wire_of_low : (version : Version) (p : Plan) (h : List Edge) (d : Driver) (w : Wire) → IsAccepted p → IsLegal version p h → drive h d w ≡ true → has_wire d w ≡ true
wire_of_low version p h d w accepted legal low =
    wire_of_driver p accepted d w (is_true (has_driver p d w) (λ lacks. never (sym (never_drove version p h d w legal lacks) ∙ low)))

-- the slots up to the last
slots_below : (n : ℕ) → n ≤ 21 → All (λ s. is_slot s ≡ true) (up_to n)
slots_below zero h = All-nil (λ s. is_slot s ≡ true)
slots_below (suc n) h =
    All-append (λ s. is_slot s ≡ true) (up_to n) (suc n ∷ []) (slots_below n (omega arith))
    (All-cons (λ s. is_slot s ≡ true) (suc n) [] (is_within (suc n) (omega arith) h) (All-nil (λ s. is_slot s ≡ true)))

pub all_slots : (p : Plan) → IsAccepted p → All (λ s. is_slot s ≡ true) (up_to p.slots)
all_slots p accepted = slots_below p.slots (in_range p accepted).most

-- what is found is one of them
found_at : (P : ℕ → Type 0) (test : ℕ → Bool) (x : ℕ) (xs : List ℕ) (s : ℕ) (b : Bool) → test x ≡ b → (if b then Some x else find test xs) ≡ Some s → P x → (find test xs ≡ Some s → P s) → P s
found_at P test x xs s true e h here next = subst P (same x s h) here
  where
    same : (m n : ℕ) → Some m ≡ Some n → m ≡ n
    same m n e = cc
found_at P test x xs s false e h here next = next h

pub found_holds : (P : ℕ → Type 0) (test : ℕ → Bool) (xs : List ℕ) (s : ℕ) → All P xs → find test xs ≡ Some s → P s
found_holds P test [] s a h = absurd (cc)
found_holds P test (x ∷ xs) s a h = found_at P test x xs s (test x) refl h (All-head P x xs a) (found_holds P test xs s (All-tail P x xs a))

-- a slot from 1 to the last
pub slot_within : (p : Plan) → IsAccepted p → (s : ℕ) → 1 ≤ s → s ≤ p.slots → is_slot s ≡ true
slot_within p accepted s from to =
    let most : p.slots ≤ 21 = (in_range p accepted).most in
    is_within s from (omega arith)

-- the first slot that passes a test, if there is one
first_slot : (p : Plan) → IsAccepted p → (test : ℕ → Bool) (o : Option ℕ) → o ≡ find test (up_to p.slots) → IfSome o (λ s. IsTrue (is_slot s))
first_slot p accepted test None is = tt
first_slot p accepted test (Some s) is = found_holds (λ x. is_slot x ≡ true) test (up_to p.slots) s (all_slots p accepted) (sym is)

pub holder_slot : (p : Plan) → IsAccepted p → (h : List Edge) (o : Option ℕ) → o ≡ holder p h → IfSome o (λ s. IsTrue (is_slot s))
holder_slot p accepted h o is = first_slot p accepted (λ s. drive h (Slot s) Bbsy) o is

pub addressing_slot : (p : Plan) → IsAccepted p → (h : List Edge) (o : Option ℕ) → o ≡ addressing p h → IfSome o (λ s. IsTrue (is_slot s))
addressing_slot p accepted h o is = first_slot p accepted (λ s. drive h (Slot s) Addr) o is

-- what is shown, if anything, is in range
abbrev pub IsInRange : Option Cycle → Type 0
IsInRange v = IfSome v (λ c. IsTrue (is_in_range c))

-- the value of a well-formed edge of an address group is in range
value_in_range : (w : Wire) (fall : Bool) (v : Option Cycle) → is_same_wire w Addr ≡ true → has_value w fall v ≡ true → IsInRange v
value_in_range Addr true (Some c) same h = h
value_in_range Addr true None same h = absurd (cc)
value_in_range Addr false None same h = tt
value_in_range Addr false (Some c) same h = absurd (cc)
value_in_range (Bg n) fall v same h = absurd (cc)
value_in_range Bclr fall v same h = absurd (cc)
value_in_range Iack fall v same h = absurd (cc)
value_in_range Berr fall v same h = absurd (cc)
value_in_range Br fall v same h = absurd (cc)
value_in_range BgOut fall v same h = absurd (cc)
value_in_range Bbsy fall v same h = absurd (cc)
value_in_range AddressStrobe fall v same h = absurd (cc)
value_in_range DataStrobe fall v same h = absurd (cc)
value_in_range Irq fall v same h = absurd (cc)
value_in_range IackOut fall v same h = absurd (cc)
value_in_range Dtack fall v same h = absurd (cc)

edge_in_range : (version : Version) (p : Plan) (h : List Edge) (e : Edge) (d : Driver) → verdict_but_full version p h e ≡ Ok tt → is_edge_of d Addr e ≡ true → IsInRange e.value
edge_in_range version p h e d allowed of =
    value_in_range e.wire e.fall e.value (and_left (is_same_wire e.wire Addr) (is_same_driver e.driver d) of)
    (and_right (has_wire e.driver e.wire) (has_value e.wire e.fall e.value) (and_left (is_well_formed e) (has_driver p e.driver e.wire) (checked _ NoSuchDriver _ allowed).0))

last_by : (is : Bool) (here before : Option Cycle) → (is ≡ true → IsInRange here) → IsInRange before → IsInRange (if is then here else before)
last_by true here before a b = a refl
last_by false here before a b = b

last_in_range : (version : Version) (p : Plan) (h : List Edge) (d : Driver) → IsLegal version p h → IsInRange (last_value h d)
last_in_range version p [] d l = tt
last_in_range version p (e ∷ h) d l = last_by (is_edge_of d Addr e) e.value (last_value h d) (edge_in_range version p h e d l.0) (last_in_range version p h d l.1)

by_slot : (version : Version) (p : Plan) (h : List Edge) (s : Option ℕ) → IsLegal version p h → IsInRange (option_and_then (λ t. last_value h (Slot t)) s)
by_slot version p h None l = tt
by_slot version p h (Some s) l = last_in_range version p h (Slot s) l

pub shown_in_range : (version : Version) (p : Plan) (h : List Edge) → IsLegal version p h → IsInRange (shown p h)
shown_in_range version p h l = by_slot version p h (addressing p h) l
