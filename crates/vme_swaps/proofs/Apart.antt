-- Two edges that are allowed in both orders: what one of them changes, the other does not.
use Rattle.std.proofs.Common.{◌≡◌, ◌∙◌, refl, sym, ap, ℕ, zero, suc, Bool, true, false, List, [], ◌∷◌, ◌+◌, ◌<◌, arith}
use Rattle.std.specs.Prelude.{◌&&◌, ◌||◌, not, if◌then◌else◌, Option, Some, None, Ok, find}
use Rattle.std.specs.List.{list_all}
use Rattle.std.specs.Option.{option_and_then}
use Rattle.std.proofs.lemmas.Bool.Decides.{nat_tests}
use Rattle.vme_model.specs.declared.signals.Version.{Version}
use Rattle.vme_model.specs.declared.signals.Cycle.{Cycle}
use Rattle.vme_model.specs.declared.signals.Edge.{Edge}
use Rattle.vme_model.specs.declared.signals.Driver.{Driver}
use Rattle.vme_model.specs.declared.signals.Driver.TheVariants.{Controller, Slot}
use Rattle.vme_model.specs.declared.signals.Wire.{Wire}
use Rattle.vme_model.specs.declared.signals.Wire.TheVariants.{Bg, Bbsy, Addr, AddressStrobe, DataStrobe, Dtack}
use Rattle.vme_model.specs.declared.refusals.Refused.TheVariants.{NoSuchDriver}
use Rattle.vme_model.specs.Signals.{is_edge_of, is_fall_of, is_same_wire, is_same_driver, is_grant, is_grant_wire, grant_level, has_wire, has_value, is_well_formed}
use Rattle.vme_model.specs.Plan.{Plan, has_driver, up_to}
use Rattle.vme_model.specs.Accepted.{IsAccepted}
use Rattle.vme_model.specs.History.{drive, line, shown, last_value, last_level, cycles, has_strobed}
use Rattle.vme_model.specs.Readings.{Readings, readings}
use Rattle.vme_model.specs.Guards.{holds}
use Rattle.vme_model.specs.Rules.{rule, are_grants_high, bus_numbers, answer_guard, burst_guard}
use Rattle.vme_model.specs.GrantSafety.{is_fall_on}
use Rattle.vme_model.specs.CycleSafety.{KeepsItsAddress, OneAnswers, Answers}
use Rattle.vme_model.specs.Safe.{OnEachPrefix}
use Rattle.vme_model.specs.Verdict.{IsLegal, verdict_but_full}
use Rattle.vme_model.proofs.Bools.{and_left, and_right, is_false}
use Rattle.vme_model.proofs.AllowedEdges.{checked, all_passed}
use Rattle.vme_model.proofs.Safety.{legal_is_orderly}
use Rattle.vme_histories.proofs.Others.{same_wire}
use Rattle.vme_histories.proofs.Drivers.{same_driver}
use Rattle.vme_swaps.proofs.Alike.{shown_by}

pub same_self : (d : Driver) → is_same_driver d d ≡ true
same_self Controller = refl
same_self (Slot s) = grind (arith, nat_tests)

pub both : (a b : Bool) → a ≡ true → b ≡ true → (a && b) ≡ true
both a b e f = grind arith

-- whose edge it is, and of which wire
pub wire_of : (d : Driver) (w : Wire) (e : Edge) → is_edge_of d w e ≡ true → e.wire ≡ w
wire_of d w e is = same_wire e.wire w (and_left (is_same_wire e.wire w) (is_same_driver e.driver d) is)

pub driver_of : (d : Driver) (w : Wire) (e : Edge) → is_edge_of d w e ≡ true → e.driver ≡ d
driver_of d w e is = same_driver e.driver d (and_right (is_same_wire e.wire w) (is_same_driver e.driver d) is)

pub edge_of : (d : Driver) (w : Wire) (e : Edge) → is_fall_of d w e ≡ true → is_edge_of d w e ≡ true
edge_of d w e is = and_right e.fall (is_edge_of d w e) is

pub falls : (d : Driver) (w : Wire) (e : Edge) → is_fall_of d w e ≡ true → e.fall ≡ true
falls d w e is = and_left e.fall (is_edge_of d w e) is

-- what an allowed edge has passed
module _ (version : Version) (p : Plan) (h : List Edge) where
  pub before : (d : Driver) (w : Wire) (e : Edge) → verdict_but_full version p h e ≡ Ok tt → is_edge_of d w e ≡ true → drive h d w ≡ not e.fall
  before d w e allowed is = (λ i. drive h (sym (driver_of d w e is) i) (sym (wire_of d w e is) i)) ∙ (all_passed version p h e.driver e.wire e.fall e.value allowed).before

  ruled : (d : Driver) (w : Wire) (fall : Bool) (e : Edge) → verdict_but_full version p h e ≡ Ok tt
      → e.driver ≡ d → e.wire ≡ w → e.fall ≡ fall → (rule version (readings p h d) w fall e.value).1 ≡ true
  ruled d w fall e allowed driver wire way =
      (λ i. (rule version (readings p h (sym driver i)) (sym wire i) (sym way i) e.value).1) ∙ (all_passed version p h e.driver e.wire e.fall e.value allowed).rule

  fall_ruled : (d : Driver) (w : Wire) (e : Edge) → verdict_but_full version p h e ≡ Ok tt → is_fall_of d w e ≡ true → (rule version (readings p h d) w true e.value).1 ≡ true
  fall_ruled d w e allowed is = ruled d w true e allowed (driver_of d w e (edge_of d w e is)) (wire_of d w e (edge_of d w e is)) (falls d w e is)

  pub has : (d : Driver) (w : Wire) (e : Edge) → verdict_but_full version p h e ≡ Ok tt → e.driver ≡ d → e.wire ≡ w → has_wire d w ≡ true
  has d w e allowed driver wire = (λ i. has_wire (sym driver i) (sym wire i)) ∙ (all_passed version p h e.driver e.wire e.fall e.value allowed).wire

  valued : (e : Edge) → verdict_but_full version p h e ≡ Ok tt → has_value e.wire e.fall e.value ≡ true
  valued e allowed =
      let a = checked (is_well_formed e && has_driver p e.driver e.wire) NoSuchDriver _ allowed in
      and_right (has_wire e.driver e.wire) (has_value e.wire e.fall e.value) (and_left (is_well_formed e) (has_driver p e.driver e.wire) a.0)

-- Boolean shapes of what a history says of two edges
opposite : (x y : Bool) → x ≡ not y → not x ≡ not y → ⊥
opposite x y e f = grind arith

swap_if : {A : Type 0} (s t : Bool) → (s ≡ true → t ≡ true → ⊥) → (x y z : A) → (if t then y else (if s then x else z)) ≡ (if s then x else (if t then y else z))
swap_if true true one x y z = absurd (one refl refl)
swap_if true false one x y z = refl
swap_if false true one x y z = refl
swap_if false false one x y z = refl

exchanged : (m n c : ℕ) → m + (n + c) ≡ n + (m + c)
exchanged m n c = omega arith

swap_counts : (a0 a1 b0 b1 : Bool) → (a0 ≡ true → b1 ≡ true → ⊥) → (b0 ≡ true → a1 ≡ true → ⊥) → (c : ℕ) →
    (if b0 then 0 else (if b1 then 1 else 0) + (if a0 then 0 else (if a1 then 1 else 0) + c))
    ≡ (if a0 then 0 else (if a1 then 1 else 0) + (if b0 then 0 else (if b1 then 1 else 0) + c))
swap_counts true a1 true b1 x y c = refl
swap_counts true a1 false true x y c = absurd (x refl refl)
swap_counts true a1 false false x y c = refl
swap_counts false true true b1 x y c = absurd (y refl refl)
swap_counts false false true b1 x y c = refl
swap_counts false a1 false b1 x y c = exchanged (if b1 then 1 else 0) (if a1 then 1 else 0) c

or_exchanged : (x y z : Bool) → (x || (y || z)) ≡ (y || (x || z))
or_exchanged x y z = grind arith

pub swap_since : (a0 a1 b0 b1 : Bool) → (a0 ≡ true → b1 ≡ true → ⊥) → (b0 ≡ true → a1 ≡ true → ⊥) → (z : Bool) →
    (if b0 then false else b1 || (if a0 then false else a1 || z))
    ≡ (if a0 then false else a1 || (if b0 then false else b1 || z))
swap_since true a1 true b1 x y z = refl
swap_since true a1 false true x y z = absurd (x refl refl)
swap_since true a1 false false x y z = refl
swap_since false true true b1 x y z = absurd (y refl refl)
swap_since false false true b1 x y z = refl
swap_since false a1 false b1 x y z = or_exchanged b1 a1 z

-- what a grant asks for
grants_high : (version : Version) (r : Readings) (w : Wire) (fall : Bool) (v : Option Cycle)
    → (fall && is_grant_wire w) ≡ true → (rule version r w fall v).1 ≡ true → are_grants_high r ≡ true
grants_high version r (Bg n) true v is passed = and_left _ _ (and_left _ _ passed)
grants_high version r w true v is passed = absurd (cc)
grants_high version r w false v is passed = absurd (cc)

each_high : (f : ℕ → Bool) → list_all (λ n. not (f n)) bus_numbers ≡ true → (n : ℕ) → n < 4 → not (f n) ≡ true
each_high f all zero near = and_left (not (f 0)) _ all
each_high f all (suc zero) near = and_left (not (f 1)) _ (and_right (not (f 0)) _ all)
each_high f all (suc (suc zero)) near = and_left (not (f 2)) _ (and_right (not (f 1)) _ (and_right (not (f 0)) _ all))
each_high f all (suc (suc (suc zero))) near = and_left (not (f 3)) true (and_right (not (f 2)) _ (and_right (not (f 1)) _ (and_right (not (f 0)) _ all)))
each_high f all (suc (suc (suc (suc n)))) near = absurd (omega (arith, near))

grant_number : (d : Driver) (w : Wire) → is_grant_wire w ≡ true → has_wire d w ≡ true → (d ≡ Controller) × (w ≡ Bg (grant_level w)) × (grant_level w < 4)
grant_number Controller (Bg n) is has = let near : n < 4 = grind (arith, nat_tests) in (refl, refl, near)
grant_number (Slot s) (Bg n) is has = absurd (cc)
grant_number d w is has = absurd (cc)

whole : (P : List Edge → Type 0) (h : List Edge) → OnEachPrefix P h → P h
whole P [] each = each
whole P (e ∷ h) each = each.0

no_value : (v : Option Cycle) → has_value Addr false v ≡ true → v ≡ None
no_value None e = refl
no_value (Some c) e = absurd (cc)

none_answers : (r : Readings) (v : Option Cycle) → v ≡ None → holds (answer_guard r v) ≡ false
none_answers r v none = ap (λ x. holds (answer_guard r x)) none

-- both orders are allowed
pub record AreAllowed (version : Version) (p : Plan) (h : List Edge) (a b : Edge) : Type 0 where
  pub accepted : IsAccepted p
  pub legal : IsLegal version p h
  pub first : verdict_but_full version p h a ≡ Ok tt
  pub second : verdict_but_full version p (a ∷ h) b ≡ Ok tt
  pub second_alone : verdict_but_full version p h b ≡ Ok tt
  pub first_behind : verdict_but_full version p (b ∷ h) a ≡ Ok tt

pub turned : (version : Version) (p : Plan) (h : List Edge) (a b : Edge) → AreAllowed version p h a b → AreAllowed version p h b a
turned version p h a b k = record {
  accepted = k.accepted;
  legal = k.legal;
  first = k.second_alone;
  second = k.first_behind;
  second_alone = k.first;
  first_behind = k.second;
}

strobed_address : (h : List Edge) → KeepsItsAddress h → (d : Driver) → has_wire d AddressStrobe ≡ true
    → drive h d Addr ≡ true → drive h d Bbsy ≡ false → drive h d AddressStrobe ≡ true
strobed_address h keeps Controller has on free = absurd (cc)
strobed_address h keeps (Slot s) has on free = keeps s on free

module _ (version : Version) (p : Plan) (h : List Edge) (a b : Edge) (k : AreAllowed version p h a b) where
  -- they are edges of two wires
  pub apart : (d : Driver) (w : Wire) → is_edge_of d w a ≡ true → is_edge_of d w b ≡ true → ⊥
  apart d w is_a is_b =
      let x = before version p h d w a k.first is_a in
      let y = before version p h d w b k.second_alone is_b in
      let z = before version p (a ∷ h) d w b k.second is_b in
      let after : a.fall ≡ not b.fall = sym (ap (λ t. if t then a.fall else drive h d w) is_a) ∙ z in
      opposite a.fall b.fall after (sym x ∙ y)

  -- they are not two grants
  one_grants : is_grant a ≡ true → is_grant b ≡ true → ⊥
  one_grants is_a is_b =
      let pa = all_passed version p h a.driver a.wire a.fall a.value k.first in
      let pb = all_passed version p (a ∷ h) b.driver b.wire b.fall b.value k.second in
      let ga = grant_number a.driver a.wire (and_right a.fall (is_grant_wire a.wire) is_a) pa.wire in
      let gb = grant_number b.driver b.wire (and_right b.fall (is_grant_wire b.wire) is_b) pb.wire in
      let high = grants_high version (readings p (a ∷ h) b.driver) b.wire b.fall b.value is_b pb.rule in
      let off = each_high (λ n. drive (a ∷ h) b.driver (Bg n)) high (grant_level a.wire) ga.2 in
      let own : is_edge_of b.driver (Bg (grant_level a.wire)) a ≡ true =
      both (is_same_wire a.wire (Bg (grant_level a.wire))) (is_same_driver a.driver b.driver)
      ((λ i. is_same_wire (ga.1 i) (Bg (grant_level a.wire))) ∙ same_self (Slot (grant_level a.wire)))
      ((λ i. is_same_driver (ga.0 i) (gb.0 i))) in
      let low : drive (a ∷ h) b.driver (Bg (grant_level a.wire)) ≡ true =
      ap (λ t. if t then a.fall else drive h b.driver (Bg (grant_level a.wire))) own ∙ and_left a.fall (is_grant_wire a.wire) is_a in
      let bad : not true ≡ true = ap not (sym low) ∙ off in cc

  -- a board that takes the bus does not begin a cycle at once
  no_cycle : (d : Driver) → is_fall_of d Bbsy a ≡ true → is_fall_of d AddressStrobe b ≡ true → ⊥
  no_cycle d is_a is_b =
      let on_b = edge_of d AddressStrobe b is_b in
      let free : drive h d Bbsy ≡ false = before version p h d Bbsy a k.first (edge_of d Bbsy a is_a) ∙ ap not (falls d Bbsy a is_a) in
      let high : drive h d AddressStrobe ≡ false = before version p h d AddressStrobe b k.second_alone on_b ∙ ap not (falls d AddressStrobe b is_b) in
      let on : drive h d Addr ≡ true = and_left _ _ (fall_ruled version p h d AddressStrobe b k.second_alone is_b) in
      let keeps = whole KeepsItsAddress h (legal_is_orderly version p h k.accepted k.legal).keeps_address in
      let low = strobed_address h keeps d (has version p h d AddressStrobe b k.second_alone (driver_of d AddressStrobe b on_b) (wire_of d AddressStrobe b on_b)) on free in
      let bad : false ≡ true = sym high ∙ low in cc

  -- a board does not strobe data while it begins a cycle
  no_strobe : (d : Driver) → is_fall_of d AddressStrobe a ≡ true → is_fall_of d DataStrobe b ≡ true → ⊥
  no_strobe d is_a is_b =
      let high : drive h d AddressStrobe ≡ false = before version p h d AddressStrobe a k.first (edge_of d AddressStrobe a is_a) ∙ ap not (falls d AddressStrobe a is_a) in
      let low : drive h d AddressStrobe ≡ true = and_left _ _ (and_left _ _ (and_left _ _ (and_left _ _ (fall_ruled version p h d DataStrobe b k.second_alone is_b)))) in
      let bad : false ≡ true = sym high ∙ low in cc

  -- beside an answer no address changes
  pub address_stays : is_fall_on Dtack a ≡ true → is_same_wire b.wire Addr ≡ false
  address_stays answers = is_false (is_same_wire b.wire Addr) (λ on. by_way on b.fall refl)
    where
      wire : a.wire ≡ Dtack
      wire = same_wire a.wire Dtack (and_right a.fall (is_same_wire a.wire Dtack) answers)

      way : a.fall ≡ true
      way = and_left a.fall (is_same_wire a.wire Dtack) answers

      by_way : is_same_wire b.wire Addr ≡ true → (fall : Bool) → b.fall ≡ fall → ⊥
      by_way on true falls =
          let reads = readings p h b.driver in
          let low = and_right (line p h DataStrobe) (line p h AddressStrobe) (and_left _ _ (ruled version p h a.driver Dtack true a k.first refl wire way)) in
          let begins = and_left (drive h b.driver Bbsy && not (line p h AddressStrobe)) (holds (burst_guard reads))
          (and_left _ _ (ruled version p h b.driver Addr true b k.second_alone refl (same_wire b.wire Addr on) falls)) in
          let high = and_right (drive h b.driver Bbsy) (not (line p h AddressStrobe)) begins in
          let bad : not true ≡ true = ap not (sym low) ∙ high in cc
      by_way on false rises =
          let ended : b.value ≡ None = no_value b.value ((λ i. has_value (sym (same_wire b.wire Addr on) i) (sym rises i) b.value) ∙ valued version p h b k.second_alone) in
          let nothing : shown p (b ∷ h) ≡ None = shown_by version p h b k.accepted k.legal k.second_alone on ∙ ended in
          let answered = and_right _ (holds (answer_guard (readings p (b ∷ h) a.driver) (shown p (b ∷ h)))) (ruled version p (b ∷ h) a.driver Dtack true a k.first_behind refl wire way) in
          let none = none_answers (readings p (b ∷ h) a.driver) (shown p (b ∷ h)) nothing in
          let bad : false ≡ true = sym none ∙ answered in cc

-- what both orders leave the same, whatever the two edges are
module _ (version : Version) (p : Plan) (h : List Edge) (a b : Edge) (k : AreAllowed version p h a b) where
  pub same_low : (d : Driver) (w : Wire) → drive (b ∷ a ∷ h) d w ≡ drive (a ∷ b ∷ h) d w
  same_low d w = swap_if (is_edge_of d w a) (is_edge_of d w b) (apart version p h a b k d w) a.fall b.fall (drive h d w)

  same_value : (d : Driver) → last_value (b ∷ a ∷ h) d ≡ last_value (a ∷ b ∷ h) d
  same_value d = swap_if (is_edge_of d Addr a) (is_edge_of d Addr b) (apart version p h a b k d Addr) a.value b.value (last_value h d)

  pub same_shown : shown p (b ∷ a ∷ h) ≡ shown p (a ∷ b ∷ h)
  same_shown = λ i. option_and_then (λ s. same_value (Slot s) i) (find (λ s. same_low (Slot s) Addr i) (up_to p.slots))

  pub same_level : last_level (b ∷ a ∷ h) ≡ last_level (a ∷ b ∷ h)
  same_level = swap_if (is_grant a) (is_grant b) (one_grants version p h a b k) (grant_level a.wire) (grant_level b.wire) (last_level h)

  pub same_cycles : (d : Driver) → cycles (b ∷ a ∷ h) d ≡ cycles (a ∷ b ∷ h) d
  same_cycles d = swap_counts _ _ _ _ (no_cycle version p h a b k d) (no_cycle version p h b a (turned version p h a b k) d) (cycles h d)

  pub same_strobed : (d : Driver) → has_strobed (b ∷ a ∷ h) d ≡ has_strobed (a ∷ b ∷ h) d
  same_strobed d = swap_since _ _ _ _ (no_strobe version p h a b k d) (no_strobe version p h b a (turned version p h a b k) d) (has_strobed h d)

  -- one of the two at most is an answer
  answers_low : (g : List Edge) (d : Driver) → has_wire d Dtack ≡ true → drive g d Dtack ≡ true → Answers g d
  answers_low g Controller has low = absurd (cc)
  answers_low g (Slot s) has low = low

  pub one_answers : is_fall_on Dtack a ≡ true → is_fall_on Dtack b ≡ true → ⊥
  one_answers is_a is_b =
      let wire_a = same_wire a.wire Dtack (and_right a.fall (is_same_wire a.wire Dtack) is_a) in
      let wire_b = same_wire b.wire Dtack (and_right b.fall (is_same_wire b.wire Dtack) is_b) in
      let own_a = both _ _ (and_right a.fall (is_same_wire a.wire Dtack) is_a) (same_self a.driver) in
      let own_b = both _ _ (and_right b.fall (is_same_wire b.wire Dtack) is_b) (same_self b.driver) in
      let not_b = is_false (is_edge_of a.driver Dtack b) (apart version p h a b k a.driver Dtack own_a) in
      let low_a : drive (b ∷ a ∷ h) a.driver Dtack ≡ true =
      ap (λ t. if t then b.fall else drive (a ∷ h) a.driver Dtack) not_b
      ∙ ap (λ t. if t then a.fall else drive h a.driver Dtack) own_a
      ∙ and_left a.fall (is_same_wire a.wire Dtack) is_a in
      let low_b : drive (b ∷ a ∷ h) b.driver Dtack ≡ true =
      ap (λ t. if t then b.fall else drive (a ∷ h) b.driver Dtack) own_b
      ∙ and_left b.fall (is_same_wire b.wire Dtack) is_b in
      let legal : IsLegal version p (b ∷ a ∷ h) = (k.second, (k.first, k.legal)) in
      let one = whole OneAnswers (b ∷ a ∷ h) (legal_is_orderly version p (b ∷ a ∷ h) k.accepted legal).one_answer in
      let same : a.driver ≡ b.driver = one a.driver b.driver
      (answers_low (b ∷ a ∷ h) a.driver (has version p h a.driver Dtack a k.first refl wire_a) low_a)
      (answers_low (b ∷ a ∷ h) b.driver (has version p (a ∷ h) b.driver Dtack b k.second refl wire_b) low_b) in
      let also_b : is_edge_of a.driver Dtack b ≡ true = both _ _ (and_right b.fall (is_same_wire b.wire Dtack) is_b) ((λ i. is_same_driver b.driver (same i)) ∙ same_self b.driver) in
      apart version p h a b k a.driver Dtack own_a also_b
