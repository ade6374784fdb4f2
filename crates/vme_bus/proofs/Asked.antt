-- What an edge is answered: `BusState::ask_requester` and its like; and of a grant beyond the last level.
use Rattle.std.proofs.Common.{◌≡◌, ◌∙◌, refl, sym, ap, subst, ℕ, zero, suc, Bool, true, false, List, ◌<◌, ◌≤◌, arith}
use Rattle.std.specs.Prelude.{◌==◌, min, Option, Some, None, Ok, nat_le}
use Rattle.std.specs.Option.{option_map_or}
use Rattle.std.proofs.lemmas.Bool.Decides.{nat_tests}
use Rattle.vme_model.specs.declared.boards.Row.{Row}
use Rattle.vme_model.specs.declared.refusals.Refused.TheVariants.{AlreadyThere, Rule}
use Rattle.vme_model.specs.declared.signals.Version.{Version}
use Rattle.vme_model.specs.declared.signals.Driver.{Driver}
use Rattle.vme_model.specs.declared.signals.Driver.TheVariants.{Controller, Slot}
use Rattle.vme_model.specs.declared.signals.Edge.{Edge}
use Rattle.vme_model.specs.declared.signals.Wire.{Wire}
use Rattle.vme_model.specs.declared.signals.Wire.TheVariants.{Bg, Bclr, Iack, Berr, Br, BgOut, Bbsy, Addr, AddressStrobe, DataStrobe, Irq, IackOut, Dtack}
use Rattle.vme_model.specs.Signals.{is_well_formed, has_wire, has_value, is_slot, driver_number}
use Rattle.vme_model.specs.Plan.{Plan, board, drives, has_driver, grant_chain}
use Rattle.vme_model.specs.History.{drive}
use Rattle.vme_model.specs.Readings.{readings}
use Rattle.vme_model.specs.Rules.{rule}
use Rattle.vme_model.specs.Verdict.{Judgement, check, is_other_state}
use Rattle.vme_model.proofs.Bools.{and_left, and_right}
use Rattle.vme_histories.specs.Asked.{asked, exists}

-- every level beyond 3 is of the last chain
pub last_chain : (n : ℕ) → grant_chain (min n 3) ≡ grant_chain n
last_chain zero = refl
last_chain (suc zero) = refl
last_chain (suc (suc zero)) = refl
last_chain (suc (suc (suc zero))) = refl
last_chain (suc (suc (suc (suc n)))) = beyond (suc (suc (suc (suc n)))) (omega arith)
  where
    beyond : (m : ℕ) → 4 ≤ m → grant_chain (min m 3) ≡ grant_chain m
    beyond m l =
        let e : min m 3 ≡ 3 = grind arith in
        let a : (m == 0) ≡ false = grind (arith, nat_tests) in
        let b : (m == 1) ≡ false = grind (arith, nat_tests) in
        let d : (m == 2) ≡ false = grind (arith, nat_tests) in
        rw (e, a, b, d)

-- what an edge that there is says of its board
pub record IsAsked (p : Plan) (s : ℕ) (r : Row) (e : Edge) : Type 0 where
  pub drives : drives e.wire r ≡ true
  pub driver : has_driver p (Slot s) e.wire ≡ true
  pub value : has_value e.wire e.fall e.value ≡ true

pub asks_for : (p : Plan) (s : ℕ) (r : Row) (e : Edge) → board p s ≡ Some r → e.driver ≡ Slot s → exists p e ≡ true → IsAsked p s r e
asks_for p s r e found driver some =
    let formed = and_left (is_well_formed e) (has_driver p e.driver e.wire) some in
    let has = subst (λ d. has_driver p d e.wire ≡ true) driver (and_right (is_well_formed e) (has_driver p e.driver e.wire) some) in
    record {
      drives = subst (λ (o : Option Row). option_map_or (drives e.wire) o false ≡ true) found has;
      driver = has;
      value = and_right (has_wire e.driver e.wire) (has_value e.wire e.fall e.value) formed;
    }

abbrev pub by_state : Bool → Bool → Judgement → Judgement
by_state low fall rest = check (is_other_state low fall) AlreadyThere rest

abbrev pub by_rule : ℕ → Bool → Judgement
by_rule n b = check b (Rule n) (Ok tt)

-- the answer of a part is that to the edge
pub asked_so : (version : Version) (p : Plan) (h : List Edge) (d : Driver) (e : Edge) (low : Bool) (n : ℕ) (b : Bool) → e.driver ≡ d → low ≡ drive h d e.wire →
    n ≡ (rule version (readings p h d) e.wire e.fall e.value).0 → b ≡ (rule version (readings p h d) e.wire e.fall e.value).1 →
    by_state low e.fall (by_rule n b) ≡ asked version p h e
asked_so version p h d e low n b driver driven number answer =
    let row = rule version (readings p h d) e.wire e.fall e.value in
    ap (λ x. by_state x e.fall (by_rule n b)) driven
    ∙ ap (λ x. by_state (drive h d e.wire) e.fall (by_rule x b)) number
    ∙ ap (λ x. by_state (drive h d e.wire) e.fall (by_rule row.0 x)) answer
    ∙ ap (λ x. by_state (drive h x e.wire) e.fall (by_rule (rule version (readings p h x) e.wire e.fall e.value).0 (rule version (readings p h x) e.wire e.fall e.value).1)) (sym driver)

-- the slot of an edge that there is has a board
pub has_board : (p : Plan) (s : ℕ) (e : Edge) → e.driver ≡ Slot s → exists p e ≡ true → (r : Row) × (board p s ≡ Some r)
has_board p s e driver some = by_board (board p s) refl (subst (λ d. has_driver p d e.wire ≡ true) driver (and_right (is_well_formed e) (has_driver p e.driver e.wire) some))
  where
    by_board : (o : Option Row) → board p s ≡ o → option_map_or (drives e.wire) o false ≡ true → (r : Row) × (board p s ≡ Some r)
    by_board None is has = absurd (cc)
    by_board (Some r) is has = (r, is)

-- and is one of the slots that a backplane can have
pub near_slot : (s : ℕ) (e : Edge) → e.driver ≡ Slot s → is_well_formed e ≡ true → s < 22
near_slot s e driver formed =
    let has = subst (λ d. has_wire d e.wire ≡ true) driver (and_left (has_wire e.driver e.wire) (has_value e.wire e.fall e.value) formed) in
    by_wire e.wire has
  where
    most_of : nat_le s 21 ≡ true → s ≤ 21
    most_of e = grind (arith, nat_tests)

    below : is_slot s ≡ true → s < 22
    below e = let most : s ≤ 21 = most_of (and_right (nat_le 1 s) (nat_le s 21) e) in omega arith

    by_wire : (w : Wire) → has_wire (Slot s) w ≡ true → s < 22
    by_wire (Bg n) e = absurd (cc)
    by_wire Bclr e = absurd (cc)
    by_wire Iack e = absurd (cc)
    by_wire Berr e = absurd (cc)
    by_wire Br e = below e
    by_wire BgOut e = below e
    by_wire Bbsy e = below e
    by_wire Addr e = below e
    by_wire AddressStrobe e = below e
    by_wire DataStrobe e = below e
    by_wire Irq e = below e
    by_wire IackOut e = below e
    by_wire Dtack e = below e

pub near_place : (e : Edge) → is_well_formed e ≡ true → driver_number e.driver < 22
near_place e formed = by_driver e.driver refl
  where
    by_driver : (d : Driver) → e.driver ≡ d → driver_number d < 22
    by_driver Controller is = omega arith
    by_driver (Slot s) is = near_slot s e is formed
