-- Each driver's wire has a place below 352.
use Rattle.std.proofs.Common.{◌∙◌, ap, length, get_or, replicate, Option, None, [], ◌≡◌, ◌∙◌, ℕ, ◌<◌, ◌≤◌, true, ap, arith, get_or}
use Rattle.std.specs.Prelude.{not}
use Rattle.std.proofs.lemmas.Bool.Decides.{nat_tests}
use Rattle.vme_model.specs.declared.signals.Driver.{Driver}
use Rattle.vme_model.specs.declared.signals.Driver.TheVariants.{Controller, Slot}
use Rattle.vme_model.specs.declared.signals.Wire.{Wire}
use Rattle.vme_model.specs.declared.signals.Wire.TheVariants.{Bg, Bclr, Iack, Berr, Br, BgOut, Bbsy, Addr, AddressStrobe, DataStrobe, Irq, IackOut, Dtack}
use Rattle.vme_model.specs.declared.signals.Part.TheVariants as parts
use Rattle.vme_model.specs.Signals.{has_wire, is_of, is_slot, driver_number, wire_number}
use Rattle.std.proofs.lemmas.List.{get_or-replicate, length-replicate}
use Rattle.vme_model.specs.Plan.{Plan}
use Rattle.vme_model.proofs.Bools.{and_right}
use Rattle.vme_explain.specs.Marked.{IsMovesOf, IsServicesOf}
use Rattle.vme_explain.specs.declared.moves.Moves.{Moves}
use Rattle.vme_explain.specs.declared.services.Services.{Services}
use Rattle.vme_explain.specs.Marks.{place}

grant_below : (level : ℕ) → has_wire Controller (Bg level) ≡ true → level < 4
grant_below level h = grind (nat_tests, arith)

-- a wire that a driver has has a number below 16
below_16 : (d : Driver) (w : Wire) → has_wire d w ≡ true → wire_number w < 16
below_16 Controller (Bg level) h = let lt : level < 4 = grant_below level h in omega (arith, lt)
below_16 (Slot s) (Bg level) h = absurd (cc)
below_16 d Bclr h = omega arith
below_16 d Iack h = omega arith
below_16 d Berr h = omega arith
below_16 d Br h = omega arith
below_16 d BgOut h = omega arith
below_16 d Bbsy h = omega arith
below_16 d Addr h = omega arith
below_16 d AddressStrobe h = omega arith
below_16 d DataStrobe h = omega arith
below_16 d Irq h = omega arith
below_16 d IackOut h = omega arith
below_16 d Dtack h = omega arith

-- a slot is one that there can be
slot_of : (s : ℕ) (w : Wire) → has_wire (Slot s) w ≡ true → is_slot s ≡ true
slot_of s w h = and_right (not (is_of parts.Controller w)) (is_slot s) h

slot_range : (s : ℕ) → is_slot s ≡ true → (1 ≤ s) × (s ≤ 21)
slot_range s h = (grind (nat_tests, arith), grind (nat_tests, arith))

driver_below : (d : Driver) (w : Wire) → has_wire d w ≡ true → driver_number d < 22
driver_below Controller w h = omega arith
driver_below (Slot s) w h = let r = slot_range s (slot_of s w h) in omega (arith, r)

pub place_below : (d : Driver) (w : Wire) → has_wire d w ≡ true → place d w < 352
place_below d w h = let a = driver_below d w h in let b = below_16 d w h in omega (arith, a, b)

-- before the first edge no wire has moved
pub nothing_moved : (m : Moves) → m.wires ≡ replicate 352 None → m.grant ≡ None → IsMovesOf [] m
nothing_moved m wires grant = record {
  places = ap length wires ∙ length-replicate {A = Option ℕ} 352 None;
  wires = λ d w h. ap (λ xs. get_or xs (place d w) None) wires ∙ get_or-replicate {A = Option ℕ} 352 (place d w) None None (place_below d w h);
  grant = grant;
}

-- nor is any request served
pub nothing_served : (p : Plan) (m : Services) → m.strobes ≡ replicate 22 None → m.acknowledged ≡ replicate 22 None → m.accessed ≡ replicate 22 None → m.made ≡ replicate 22 0 → IsServicesOf p [] m
nothing_served p m strobes acknowledged accessed made = record {
  boards = (
    ap length strobes ∙ length-replicate {A = Option ℕ} 22 None,
    ap length acknowledged ∙ length-replicate {A = Option ℕ} 22 None,
    ap length accessed ∙ length-replicate {A = Option ℕ} 22 None,
    ap length made ∙ length-replicate {A = ℕ} 22 0,
  );
  strobes = λ s lt. ap (λ xs. get_or xs s None) strobes ∙ get_or-replicate {A = Option ℕ} 22 s None None lt;
  acknowledged = λ s lt. ap (λ xs. get_or xs s None) acknowledged ∙ get_or-replicate {A = Option ℕ} 22 s None None lt;
  accessed = λ s lt. ap (λ xs. get_or xs s None) accessed ∙ get_or-replicate {A = Option ℕ} 22 s None None lt;
  made = λ s lt below. ap (λ xs. get_or xs s 0) made ∙ get_or-replicate {A = ℕ} 22 s 0 0 lt;
}
