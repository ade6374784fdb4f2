-- The edge that an edge's code stands for is that edge.
use Rattle.std.proofs.Common.{◌≡◌, ◌+◌, ◌-◌, ◌*◌, ◌/◌, ◌%◌, ◌<◌, ◌≤◌, ℕ, Bool, true, false, refl, arith, ap, sym, ◌∙◌}
use Rattle.std.specs.Prelude.{Option, Some, None, ◌==◌, nat_lt, if◌then◌else◌}
use Rattle.std.proofs.lemmas.Bool.{and_parts}
use Rattle.std.proofs.lemmas.Bool.Decides.{nat_tests}
use Rattle.vme_model.specs.Signals.{is_well_formed, has_wire, has_value, is_slot, is_level, is_in_range, driver_number, wire_number}
use Rattle.vme_model.specs.declared.signals.Driver.{Driver}
use Rattle.vme_model.specs.declared.signals.Driver.TheVariants.{Controller, Slot}
use Rattle.vme_model.specs.declared.signals.Wire.{Wire}
use Rattle.vme_model.specs.declared.signals.Wire.TheVariants.{Bg, Bclr, Iack, Berr, Addr}
use Rattle.vme_model.specs.declared.signals.Cycle.{Cycle}
use Rattle.vme_model.specs.declared.signals.Cycle.TheVariants.{Acknowledge, Access}
use Rattle.vme_model.specs.declared.signals.Edge.{Edge}
use Rattle.vme_store.specs.Codes.{fall_code, value_code, code_of, driver_of, wire_of, value_of, edge_of}

-- the four parts of a code
abbrev joined : ℕ → ℕ → ℕ → ℕ → ℕ
joined d w f v = ((d * 16 + w) * 2 + f) * 32 + v

first : (d w f v : ℕ) → d < 32 → w < 16 → f < 2 → v < 32 → joined d w f v / 1024 % 32 ≡ d
first d w f v h i j k = omega arith

second : (d w f v : ℕ) → w < 16 → f < 2 → v < 32 → joined d w f v / 64 % 16 ≡ w
second d w f v i j k = omega arith

third : (d w f v : ℕ) → f < 2 → v < 32 → joined d w f v / 32 % 2 ≡ f
third d w f v j k = omega arith

fourth : (d w f v : ℕ) → v < 32 → joined d w f v % 32 ≡ v
fourth d w f v k = omega arith

slot_from : (s : ℕ) → is_slot s ≡ true → 1 ≤ s
slot_from s h = grind (arith, nat_tests, h)

slot_to : (s : ℕ) → is_slot s ≡ true → s ≤ 21
slot_to s h = grind (arith, nat_tests, h)

slot_back : (s : ℕ) → 1 ≤ s → driver_of s ≡ Slot s
slot_back s h =
    let e : (s == 0) ≡ false = grind (arith, nat_tests) in
    ap (λ b. if b then Controller else Slot s) e

bg_back : (level : ℕ) → nat_lt level 4 ≡ true → wire_of level ≡ Bg level
bg_back level h = rw h refl

bg_below : (level : ℕ) → nat_lt level 4 ≡ true → level < 16
bg_below level h = grind (arith, nat_tests, h)

-- a wire that the driver has, and the driver
abbrev AreBack : Driver → Wire → Type 0
AreBack d w = (driver_of (driver_number d) ≡ d) × (driver_number d < 32) × (wire_of (wire_number w) ≡ w) × (wire_number w < 16)

at_slot : (s : ℕ) (w : Wire) → is_slot s ≡ true → wire_of (wire_number w) ≡ w → wire_number w < 16 → AreBack (Slot s) w
at_slot s w h e l =
    let from : 1 ≤ s = slot_from s h in
    let to : s ≤ 21 = slot_to s h in
    (slot_back s from, omega arith, e, l)

wires_back : (d : Driver) (w : Wire) → has_wire d w ≡ true → AreBack d w
wires_back Controller (Bg level) h = (refl, omega arith, bg_back level h, bg_below level h)
wires_back Controller Bclr h = (refl, omega arith, refl, omega arith)
wires_back Controller Iack h = (refl, omega arith, refl, omega arith)
wires_back Controller Berr h = (refl, omega arith, refl, omega arith)
wires_back Controller w h = absurd (cc)
wires_back (Slot s) (Bg level) h = absurd (cc)
wires_back (Slot s) Bclr h = absurd (cc)
wires_back (Slot s) Iack h = absurd (cc)
wires_back (Slot s) Berr h = absurd (cc)
wires_back (Slot s) w h = at_slot s w h refl (omega arith)

-- a value in range
abbrev IsBack : Option Cycle → Type 0
IsBack v = (value_of (value_code v) ≡ v) × (value_code v < 32)

level_back : (level : ℕ) → is_level level ≡ true → IsBack (Some (Acknowledge level))
level_back level h =
    let from : 1 ≤ level = grind (arith, nat_tests, h) in
    let to : level ≤ 7 = grind (arith, nat_tests, h) in
    let e : (level == 0) ≡ false = grind (arith, nat_tests) in
    let l : nat_lt level 8 ≡ true = grind (arith, nat_tests) in
    (rw (e, l) refl, omega arith)

access_back : (s : ℕ) → is_slot s ≡ true → IsBack (Some (Access s))
access_back s h =
    let from : 1 ≤ s = slot_from s h in
    let to : s ≤ 21 = slot_to s h in
    let e : (s + 7 == 0) ≡ false = grind (arith, nat_tests) in
    let l : nat_lt (s + 7) 8 ≡ false = grind (arith, nat_tests) in
    let d : s + 7 - 7 ≡ s = omega arith in
    (rw (e, l, d) refl, omega arith)

cycle_back : (cycle : Cycle) → is_in_range cycle ≡ true → IsBack (Some cycle)
cycle_back (Acknowledge level) h = level_back level h
cycle_back (Access s) h = access_back s h

no_value : IsBack None
no_value = (refl, omega arith)

value_back : (w : Wire) (f : Bool) (v : Option Cycle) → has_value w f v ≡ true → IsBack v
value_back w f None h = no_value
value_back Addr true (Some cycle) h = cycle_back cycle h
value_back w f (Some cycle) h = absurd (cc)

fall_back : (f : Bool) → ((fall_code f == 1) ≡ f) × (fall_code f < 2)
fall_back true = (refl, omega arith)
fall_back false = (refl, omega arith)

-- the codes of the parts of a well-formed edge
pub record PartsOf (e : Edge) : Type 0 where
  pub wires : AreBack e.driver e.wire
  pub value : IsBack e.value

parts_of : (e : Edge) → is_well_formed e ≡ true → PartsOf e
parts_of e h =
    let q = and_parts (has_wire e.driver e.wire) (has_value e.wire e.fall e.value) h in
    record { wires = wires_back e.driver e.wire q.0; value = value_back e.wire e.fall e.value q.1 }

pub round_trip : (e : Edge) → is_well_formed e ≡ true → edge_of (code_of e) ≡ e
unfolding edge_of
round_trip e h =
    let p = parts_of e h in
    let f = fall_back e.fall in
    let i = first (driver_number e.driver) (wire_number e.wire) (fall_code e.fall) (value_code e.value) p.wires.1 p.wires.3 f.1 p.value.1 in
    let j = second (driver_number e.driver) (wire_number e.wire) (fall_code e.fall) (value_code e.value) p.wires.3 f.1 p.value.1 in
    let k = third (driver_number e.driver) (wire_number e.wire) (fall_code e.fall) (value_code e.value) f.1 p.value.1 in
    let l = fourth (driver_number e.driver) (wire_number e.wire) (fall_code e.fall) (value_code e.value) p.value.1 in
    rw (i, j, k, l, p.wires.0, p.wires.2, f.0, p.value.0) refl

pub apart : (e f : Edge) → is_well_formed e ≡ true → is_well_formed f ≡ true → code_of e ≡ code_of f → e ≡ f
apart e f h i c = sym (round_trip e h) ∙ ap edge_of c ∙ round_trip f i
