-- The word of an edge names it.
use Rattle.std.proofs.Common.{◌≡◌, ◌∙◌, refl, ap, ℕ, zero, suc, ◌+◌, ◌*◌, ◌-◌, ◌/◌, ◌%◌, ◌<◌, ◌≤◌, Bool, true, false, arith}
use Rattle.std.proofs.lemmas.Bool.{ne_eqb}
use Rattle.std.proofs.lemmas.Bool.Decides.{nat_tests}
use Rattle.std.specs.Prelude.{Option, Some, None, if◌then◌else◌, ◌==◌, ◌&&◌, not, nat_le}
use Rattle.vme_model.specs.declared.signals.Cycle.{Cycle}
use Rattle.vme_model.specs.declared.signals.Cycle.TheVariants.{Acknowledge, Access}
use Rattle.vme_model.specs.declared.signals.Driver.{Driver}
use Rattle.vme_model.specs.declared.signals.Driver.TheVariants.{Controller, Slot}
use Rattle.vme_model.specs.declared.signals.Edge.{Edge}
use Rattle.vme_model.specs.declared.signals.Part.TheVariants as part
use Rattle.vme_model.specs.declared.signals.Wire.{Wire}
use Rattle.vme_model.specs.declared.signals.Wire.TheVariants.{Bg, Bclr, Iack, Berr, Br, BgOut, Bbsy, Addr, AddressStrobe, DataStrobe, Irq, IackOut, Dtack}
use Rattle.vme_model.specs.Signals.{driver_number, has_value, has_wire, is_in_range, is_level, is_of, is_slot, is_well_formed, wire_number}
use Rattle.vme_model.proofs.Bools.{and_left, and_right}
use Rattle.vmebus_c.specs.Bits.{bit, shown_number}
use Rattle.vmebus_c.specs.Named.{driver_of_number, edge_of_numbers, edge_of_parts, edge_of_word, fall_of_number, value_of_number, wire_of_number}
use Rattle.vmebus_c.specs.Numbers.{edge_number}
use Rattle.vmebus_c.proofs.AllPlayed.{small_wire}

if_second : {A : Type 0} (a b : Bool) (x y z : A) → a ≡ false → b ≡ true → (if a then x else (if b then y else z)) ≡ y
if_second true b x y z first second = absurd (cc)
if_second false true x y z first second = refl
if_second false false x y z first second = absurd (cc)

if_third : {A : Type 0} (a b c : Bool) (x y z u : A) → a ≡ false → b ≡ false → c ≡ true → (if a then x else (if b then y else (if c then z else u))) ≡ z
if_third true b c x y z u first second third = absurd (cc)
if_third false b c x y z u first second third = if_second b c y z u second third

-- ---- its four numbers name its parts

from_one : (n most : ℕ) → (nat_le 1 n && nat_le n most) ≡ true → 1 ≤ n
from_one n most h = let least = and_left (nat_le 1 n) (nat_le n most) h in grind (arith, nat_tests)

to_most : (n most : ℕ) → (nat_le 1 n && nat_le n most) ≡ true → n ≤ most
to_most n most h = let last = and_right (nat_le 1 n) (nat_le n most) h in grind (arith, nat_tests)

not_zero : (n : ℕ) → 1 ≤ n → (n == 0) ≡ false
not_zero n from = ne_eqb n 0 (λ e. omega (arith, from, e))

slot_of : (s : ℕ) (w : Wire) → has_wire (Slot s) w ≡ true → is_slot s ≡ true
slot_of s w h = and_right (not (is_of part.Controller w)) (is_slot s) h

driver_named : (d : Driver) (w : Wire) → has_wire d w ≡ true → driver_of_number (driver_number d) ≡ Some d
driver_named Controller w h = refl
driver_named (Slot s) w h =
    if_second (s == 0) (is_slot s) (Some Controller) (Some (Slot s)) None (not_zero s (from_one s 21 (slot_of s w h))) (slot_of s w h)

small_driver : (d : Driver) (w : Wire) → has_wire d w ≡ true → driver_number d < 256
small_driver Controller w h = omega arith
small_driver (Slot s) w h = omega (arith, to_most s 21 (slot_of s w h))

wire_named : (d : Driver) (w : Wire) → has_wire d w ≡ true → wire_of_number (wire_number w) ≡ Some w
wire_named Controller (Bg zero) h = refl
wire_named Controller (Bg (suc zero)) h = refl
wire_named Controller (Bg (suc (suc zero))) h = refl
wire_named Controller (Bg (suc (suc (suc zero)))) h = refl
wire_named Controller (Bg (suc (suc (suc (suc n))))) h = let l : suc (suc (suc (suc n))) < 4 = grind (arith, nat_tests) in absurd (omega (arith, l))
wire_named (Slot s) (Bg level) h = absurd (cc)
wire_named d Bclr h = refl
wire_named d Iack h = refl
wire_named d Berr h = refl
wire_named d Br h = refl
wire_named d BgOut h = refl
wire_named d Bbsy h = refl
wire_named d Addr h = refl
wire_named d AddressStrobe h = refl
wire_named d DataStrobe h = refl
wire_named d Irq h = refl
wire_named d IackOut h = refl
wire_named d Dtack h = refl

fall_named : (fall : Bool) → fall_of_number (bit fall 1) ≡ Some fall
fall_named true = refl
fall_named false = refl

small_fall : (fall : Bool) → bit fall 1 < 256
small_fall true = omega arith
small_fall false = omega arith

ranged : (w : Wire) (fall : Bool) (c : Cycle) → has_value w fall (Some c) ≡ true → is_in_range c ≡ true
ranged Addr true c h = h
ranged w fall c h = absurd (cc)

both_false : (a b : Bool) → b ≡ false → (a && b) ≡ false
both_false true b h = h
both_false false b h = refl

cycle_named : (c : Cycle) → is_in_range c ≡ true → value_of_number (shown_number (Some c)) ≡ Some (Some c)
cycle_named (Acknowledge level) h =
    let most = to_most level 7 h in
    let same : level % 32 ≡ level = omega (arith, most) in
    ap value_of_number same
    ∙ if_second (level == 0) (is_level level) (Some None) (Some (Some (Acknowledge level))) (if is_slot (level - 32) then Some (Some (Access (level - 32))) else None)
    (not_zero level (from_one level 7 h)) h
cycle_named (Access s) h =
    let most = to_most s 21 h in
    let same : 32 + s % 32 ≡ 32 + s = omega (arith, most) in
    let back : 32 + s - 32 ≡ s = omega arith in
    let no_level : nat_le (32 + s) 7 ≡ false = grind (arith, nat_tests) in
    ap value_of_number same
    ∙ if_third ((32 + s) == 0) (is_level (32 + s)) (is_slot (32 + s - 32)) (Some None) (Some (Some (Acknowledge (32 + s)))) (Some (Some (Access (32 + s - 32)))) None
    (not_zero (32 + s) (omega arith)) (both_false (nat_le 1 (32 + s)) (nat_le (32 + s) 7) no_level) (ap is_slot back ∙ h)
    ∙ ap (λ (n : ℕ). Some (Some (Access n))) back

value_named : (w : Wire) (fall : Bool) (v : Option Cycle) → has_value w fall v ≡ true → value_of_number (shown_number v) ≡ Some v
value_named w fall None h = refl
value_named w fall (Some c) h = cycle_named c (ranged w fall c h)

small_value : (v : Option Cycle) → shown_number v < 256
small_value None = omega arith
small_value (Some (Acknowledge level)) = omega arith
small_value (Some (Access s)) = omega arith

-- ---- they are the bytes of its word

module _ (d w f v : ℕ) (d_small : d < 256) (w_small : w < 256) (f_small : f < 256) (v_small : v < 256) where
  abbrev word : ℕ
  word = ((d * 256 + w) * 256 + f) * 256 + v

  first : word / 16777216 ≡ d
  first = omega (arith, w_small, f_small, v_small)

  second : word / 65536 % 256 ≡ w
  second = omega (arith, w_small, f_small, v_small)

  third : word / 256 % 256 ≡ f
  third = omega (arith, f_small, v_small)

  fourth : word % 256 ≡ v
  fourth = omega (arith, v_small)

  by_bytes : edge_of_word word ≡ edge_of_numbers d w f v
  by_bytes =
      ap (λ (n : ℕ). edge_of_numbers n (word / 65536 % 256) (word / 256 % 256) (word % 256)) first
      ∙ ap (λ (n : ℕ). edge_of_numbers d n (word / 256 % 256) (word % 256)) second
      ∙ ap (λ (n : ℕ). edge_of_numbers d w n (word % 256)) third
      ∙ ap (edge_of_numbers d w f) fourth

pub word_names : (e : Edge) → is_well_formed e ≡ true → edge_of_word (edge_number e) ≡ Some e
word_names e h =
    let wire = and_left (has_wire e.driver e.wire) (has_value e.wire e.fall e.value) h in
    let value = and_right (has_wire e.driver e.wire) (has_value e.wire e.fall e.value) h in
    by_bytes (driver_number e.driver) (wire_number e.wire) (bit e.fall 1) (shown_number e.value)
    (small_driver e.driver e.wire wire) (omega (arith, small_wire e.driver e.wire wire)) (small_fall e.fall) (small_value e.value)
    ∙ ap (λ (o : Option Driver). edge_of_parts o (wire_of_number (wire_number e.wire)) (fall_of_number (bit e.fall 1)) (value_of_number (shown_number e.value))) (driver_named e.driver e.wire wire)
    ∙ ap (λ (o : Option Wire). edge_of_parts (Some e.driver) o (fall_of_number (bit e.fall 1)) (value_of_number (shown_number e.value))) (wire_named e.driver e.wire wire)
    ∙ ap (λ (o : Option Bool). edge_of_parts (Some e.driver) (Some e.wire) o (value_of_number (shown_number e.value))) (fall_named e.fall)
    ∙ ap (edge_of_parts (Some e.driver) (Some e.wire) (Some e.fall)) (value_named e.wire e.fall e.value value)
