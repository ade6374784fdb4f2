-- A driver has one edge for each of its wires to consider, and at most two for its address group.
use Rattle.std.proofs.Common.{◌≤◌, ◌+◌, arith, Bool, true, false, List, [], ◌∷◌, ◌++◌, length, map, ℕ, length-append}
use Rattle.std.proofs.lemmas.List.{length-map}
use Rattle.std.specs.Prelude.{Option, Some, None, option_map, cond}
use Rattle.std.specs.List.{flat_map}
use Rattle.std.specs.Option.{option_map_or, option_to_list}
use Rattle.vme_model.specs.declared.boards.Row.{Row}
use Rattle.vme_model.specs.declared.signals.Driver.{Driver}
use Rattle.vme_model.specs.declared.signals.Driver.TheVariants.{Controller, Slot}
use Rattle.vme_model.specs.declared.signals.Wire.{Wire}
use Rattle.vme_model.specs.declared.signals.Wire.TheVariants.{Br, BgOut, Bbsy, Addr, AddressStrobe, DataStrobe, Irq, IackOut, Dtack}
use Rattle.vme_model.specs.declared.signals.Cycle.TheVariants.{Acknowledge, Access}
use Rattle.vme_model.specs.declared.signals.Edge.{Edge}
use Rattle.vme_model.specs.Plan.{Plan, board}
use Rattle.vme_model.specs.History.{drive}
use Rattle.vme_model.specs.Offers.{wires, wanted, next_board, cycles_of, going_on, turned, considered}

at_most_one : {A : Type 0} (o : Option A) → length (option_to_list o) ≤ 1
at_most_one None = omega arith
at_most_one (Some a) = omega arith

two_cycles : (p : Plan) (h : List Edge) (r : Row) → length (cycles_of p h r) ≤ 2
two_cycles p h r =
    let a = option_map (λ v. Acknowledge v) (wanted p h r) in
    let b = option_map (λ t. Access t) (next_board p r.slot) in
    omega (arith, length-append (option_to_list a) (option_to_list b), at_most_one a, at_most_one b)

two_on : (p : Plan) (h : List Edge) (s : ℕ) (o : Option Row) → length {A = Edge} (option_map_or (λ r. map (λ c. record { driver = Slot s; wire = Addr; fall = true; value = Some c }) (cycles_of p h r)) o []) ≤ 2
two_on p h s None = omega arith
two_on p h s (Some r) = simp length-map (two_cycles p h r)

two_of : (b : Bool) (e : Edge) (es : List Edge) → length es ≤ 2 → length (cond b (e ∷ []) es) ≤ 2
two_of true e es l = omega arith
two_of false e es l = l

around : (a b c d e f g i : Edge) (xs : List Edge) → length xs ≤ 2 → length (a ∷ b ∷ c ∷ (xs ++ d ∷ e ∷ f ∷ g ∷ i ∷ [])) ≤ 10
around a b c d e f g i xs l = omega (arith, length-append xs (d ∷ e ∷ f ∷ g ∷ i ∷ []))

pub at_most_ten : (p : Plan) (h : List Edge) (d : Driver) → length (flat_map (considered p h d) (wires d)) ≤ 10
at_most_ten p h Controller = omega arith
at_most_ten p h (Slot s) =
    let t = λ (w : Wire). turned h (Slot s) w in
    around (t Br) (t BgOut) (t Bbsy) (t AddressStrobe) (t DataStrobe) (t Irq) (t IackOut) (t Dtack)
    (cond (drive h (Slot s) Addr) (t Addr ∷ []) (going_on p h (Slot s)))
    (two_of (drive h (Slot s) Addr) (t Addr) (going_on p h (Slot s)) (two_on p h s (board p s)))
