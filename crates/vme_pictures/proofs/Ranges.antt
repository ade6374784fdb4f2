-- What is shown after a legal list is in range, and so are the slots of a chain.
use Rattle.std.proofs.Common.{◌≡◌, ℕ, zero, suc, ◌<◌, ◌≤◌, Bool, true, false, List, [], ◌∷◌, length, get_or, Option, Some, None, Ok, refl, arith}
use Rattle.std.specs.Prelude.{if◌then◌else◌, IfSome, IsTrue}
use Rattle.std.specs.List.{All}
use Rattle.std.specs.Option.{option_and_then}
use Rattle.std.proofs.lemmas.List.Elements.{All-nil, All-cons, All-append, All-filter, All-get_or}
use Rattle.vme_model.specs.declared.sets.ChainId.{ChainId}
use Rattle.vme_model.specs.declared.signals.Version.{Version}
use Rattle.vme_model.specs.declared.signals.Driver.{Driver}
use Rattle.vme_model.specs.declared.signals.Driver.TheVariants.{Slot}
use Rattle.vme_model.specs.declared.signals.Wire.{Wire}
use Rattle.vme_model.specs.declared.signals.Wire.TheVariants.{Bg, Bclr, Iack, Berr, Br, BgOut, Bbsy, Addr, AddressStrobe, DataStrobe, Irq, IackOut, Dtack}
use Rattle.vme_model.specs.declared.signals.Cycle.{Cycle}
use Rattle.vme_model.specs.declared.signals.Edge.{Edge}
use Rattle.vme_model.specs.Signals.{has_wire, has_value, is_edge_of, is_in_range, is_same_driver, is_same_wire, is_well_formed}
use Rattle.vme_model.specs.Plan.{Plan, active, has_driver, is_active, up_to}
use Rattle.vme_model.specs.History.{addressing, last_value, shown}
use Rattle.vme_model.specs.Accepted.{IsAccepted}
use Rattle.vme_model.specs.Verdict.{IsLegal, verdict_but_full}
use Rattle.vme_model.specs.declared.refusals.Refused.TheVariants.{NoSuchDriver}
use Rattle.vme_model.proofs.AllowedEdges.{checked}
use Rattle.vme_model.proofs.Ranges.{in_range}
use Rattle.vme_model.proofs.Bools.{and_left, and_right}

-- what is shown, if anything, is in range
abbrev pub IsInRange : Option Cycle → Type 0
IsInRange v = IfSome v (λ c. IsTrue (is_in_range c))

-- the value of a well-formed edge of an address group is in range
value_in_range : (w : Wire) (fall : Bool) (v : Option Cycle) → is_same_wire w Addr ≡ true → has_value w fall v ≡ true → IsInRange v
value_in_range Addr true (Some c) same h = h
value_in_range Addr true None same h = absurd (cc)
value_in_range Addr false None same h = tt
value_in_range Addr false (Some c) same h = absurd (cc)
value_in_range (Bg n) fall v same h = absurd (cc)
value_in_range Bclr fall v same h = absurd (cc)
value_in_range Iack fall v same h = absurd (cc)
value_in_range Berr fall v same h = absurd (cc)
value_in_range Br fall v same h = absurd (cc)
value_in_range BgOut fall v same h = absurd (cc)
value_in_range Bbsy fall v same h = absurd (cc)
value_in_range AddressStrobe fall v same h = absurd (cc)
value_in_range DataStrobe fall v same h = absurd (cc)
value_in_range Irq fall v same h = absurd (cc)
value_in_range IackOut fall v same h = absurd (cc)
value_in_range Dtack fall v same h = absurd (cc)

edge_in_range : (version : Version) (p : Plan) (h : List Edge) (e : Edge) (d : Driver) → verdict_but_full version p h e ≡ Ok tt → is_edge_of d Addr e ≡ true → IsInRange e.value
edge_in_range version p h e d allowed of =
    value_in_range e.wire e.fall e.value (and_left (is_same_wire e.wire Addr) (is_same_driver e.driver d) of)
    (and_right (has_wire e.driver e.wire) (has_value e.wire e.fall e.value) (and_left (is_well_formed e) (has_driver p e.driver e.wire) (checked _ NoSuchDriver _ allowed).0))

last_by : (is : Bool) (here before : Option Cycle) → (is ≡ true → IsInRange here) → IsInRange before → IsInRange (if is then here else before)
last_by true here before a b = a refl
last_by false here before a b = b

last_in_range : (version : Version) (p : Plan) (h : List Edge) (d : Driver) → IsLegal version p h → IsInRange (last_value h d)
last_in_range version p [] d l = tt
last_in_range version p (e ∷ h) d l = last_by (is_edge_of d Addr e) e.value (last_value h d) (edge_in_range version p h e d l.0) (last_in_range version p h d l.1)

by_slot : (version : Version) (p : Plan) (h : List Edge) (s : Option ℕ) → IsLegal version p h → IsInRange (option_and_then (λ t. last_value h (Slot t)) s)
by_slot version p h None l = tt
by_slot version p h (Some s) l = last_in_range version p h (Slot s) l

pub shown_in_range : (version : Version) (p : Plan) (h : List Edge) → IsLegal version p h → IsInRange (shown p h)
shown_in_range version p h l = by_slot version p h (addressing p h) l

-- a slot of a chain
few_up_to : (n : ℕ) → n ≤ 21 → All (λ s. s < 22) (up_to n)
few_up_to zero h = All-nil (λ s. s < 22)
few_up_to (suc n) h = All-append (λ s. s < 22) (up_to n) (suc n ∷ []) (few_up_to n (omega arith)) (All-cons (λ s. s < 22) (suc n) [] (omega arith) (All-nil (λ s. s < 22)))

pub slot_of_chain : (p : Plan) → IsAccepted p → (c : ChainId) (i d : ℕ) → i < length (active p c) → get_or (active p c) i d < 22
slot_of_chain p accepted c i d within =
    All-get_or (λ s. s < 22) (active p c) i d within (All-filter (is_active p.rows c) (λ s. s < 22) (up_to p.slots) (few_up_to p.slots (in_range p accepted).most))

-- a slot of the plan
pub slot_of_plan : (p : Plan) → IsAccepted p → (n : ℕ) → n ≤ p.slots → n < 22
slot_of_plan p accepted n within = let most : p.slots ≤ 21 = (in_range p accepted).most in omega arith
