-- Each driver's wire has a place of its own.
use Rattle.std.proofs.Common.{◌≡◌, ◌∙◌, ℕ, zero, suc, ◌<◌, ◌≤◌, true, refl, sym, ap, ap₂, arith, get_or}
use Rattle.std.specs.Prelude.{◌==◌}
use Rattle.std.proofs.lemmas.Bool.Decides.{nat_tests}
use Rattle.vme_model.specs.declared.signals.Driver.{Driver}
use Rattle.vme_model.specs.declared.signals.Driver.TheVariants.{Controller, Slot}
use Rattle.vme_model.specs.declared.signals.Wire.{Wire}
use Rattle.vme_model.specs.declared.signals.Wire.TheVariants.{Bg, Bclr, Iack, Berr, Br, BgOut, Bbsy, Addr, AddressStrobe, DataStrobe, Irq, IackOut, Dtack}
use Rattle.vme_model.specs.Signals.{is_same_driver, is_same_wire, has_wire, is_slot}
use Rattle.vme_model.specs.Offers.{wires}
use Rattle.vme_model.proofs.Bools.{same_number}
use Rattle.vme_reasons.specs.Marks.{driver_place, wire_place, place}

grant_there : (level : ℕ) → has_wire Controller (Bg level) ≡ true → get_or (wires Controller) level Br ≡ Bg level
grant_there zero h = refl
grant_there (suc zero) h = refl
grant_there (suc (suc zero)) h = refl
grant_there (suc (suc (suc zero))) h = refl
grant_there (suc (suc (suc (suc n)))) h = absurd (grind (nat_tests, arith))

-- the wire in its place
there : (d : Driver) (w : Wire) → has_wire d w ≡ true → get_or (wires d) (wire_place w) Br ≡ w
there Controller (Bg level) h = grant_there level h
there Controller Bclr h = refl
there Controller Iack h = refl
there Controller Berr h = refl
there Controller Br h = absurd (cc)
there Controller BgOut h = absurd (cc)
there Controller Bbsy h = absurd (cc)
there Controller Addr h = absurd (cc)
there Controller AddressStrobe h = absurd (cc)
there Controller DataStrobe h = absurd (cc)
there Controller Irq h = absurd (cc)
there Controller IackOut h = absurd (cc)
there Controller Dtack h = absurd (cc)
there (Slot s) (Bg level) h = absurd (cc)
there (Slot s) Bclr h = absurd (cc)
there (Slot s) Iack h = absurd (cc)
there (Slot s) Berr h = absurd (cc)
there (Slot s) Br h = refl
there (Slot s) BgOut h = refl
there (Slot s) Bbsy h = refl
there (Slot s) Addr h = refl
there (Slot s) AddressStrobe h = refl
there (Slot s) DataStrobe h = refl
there (Slot s) Irq h = refl
there (Slot s) IackOut h = refl
there (Slot s) Dtack h = refl

grant_below : (level : ℕ) → has_wire Controller (Bg level) ≡ true → level < 4
grant_below level h = grind (nat_tests, arith)

-- a driver has at most nine wires
pub below_nine : (d : Driver) (w : Wire) → has_wire d w ≡ true → wire_place w < 9
below_nine Controller (Bg level) h = let lt : level < 4 = grant_below level h in omega (arith, lt)
below_nine (Slot s) (Bg level) h = absurd (cc)
below_nine d Bclr h = omega arith
below_nine d Iack h = omega arith
below_nine d Berr h = omega arith
below_nine d Br h = omega arith
below_nine d BgOut h = omega arith
below_nine d Bbsy h = omega arith
below_nine d Addr h = omega arith
below_nine d AddressStrobe h = omega arith
below_nine d DataStrobe h = omega arith
below_nine d Irq h = omega arith
below_nine d IackOut h = omega arith
below_nine d Dtack h = omega arith

-- a slot is one that there can be
pub slot_of : (s : ℕ) (w : Wire) → has_wire (Slot s) w ≡ true → is_slot s ≡ true
slot_of s (Bg level) h = absurd (cc)
slot_of s Bclr h = absurd (cc)
slot_of s Iack h = absurd (cc)
slot_of s Berr h = absurd (cc)
slot_of s Br h = h
slot_of s BgOut h = h
slot_of s Bbsy h = h
slot_of s Addr h = h
slot_of s AddressStrobe h = h
slot_of s DataStrobe h = h
slot_of s Irq h = h
slot_of s IackOut h = h
slot_of s Dtack h = h

pub slot_range : (s : ℕ) → is_slot s ≡ true → (1 ≤ s) × (s ≤ 21)
slot_range s h = (grind (nat_tests, arith), grind (nat_tests, arith))

pub driver_below : (d : Driver) (w : Wire) → has_wire d w ≡ true → driver_place d < 22
driver_below Controller w h = omega arith
driver_below (Slot s) w h = let r = slot_range s (slot_of s w h) in omega (arith, r)

pub place_below : (d : Driver) (w : Wire) → has_wire d w ≡ true → place d w < 198
place_below d w h = let a = driver_below d w h in let b = below_nine d w h in omega (arith, a, b)

same_place : (d b : Driver) (w v : Wire) → has_wire d w ≡ true → has_wire b v ≡ true → place d w ≡ place b v → (driver_place d ≡ driver_place b) × (wire_place w ≡ wire_place v)
same_place d b w v h g e =
    let x = below_nine d w h in let y = below_nine b v g in (omega (arith, x, y, e), omega (arith, x, y, e))

one_driver : (d b : Driver) (w v : Wire) → has_wire d w ≡ true → has_wire b v ≡ true → driver_place d ≡ driver_place b → d ≡ b
one_driver Controller Controller w v h g e = refl
one_driver Controller (Slot t) w v h g e = let r = slot_range t (slot_of t v g) in absurd (omega (arith, r, e))
one_driver (Slot s) Controller w v h g e = let r = slot_range s (slot_of s w h) in absurd (omega (arith, r, e))
one_driver (Slot s) (Slot t) w v h g e = ap (λ x. Slot x) e

-- so the place tells the driver and the wire
pub one_place : (d b : Driver) (w v : Wire) → has_wire d w ≡ true → has_wire b v ≡ true → place d w ≡ place b v → (d ≡ b) × (w ≡ v)
one_place d b w v h g e =
    let s = same_place d b w v h g e in
    let driver : d ≡ b = one_driver d b w v h g s.0 in
    (driver, sym (there d w h) ∙ ap₂ (λ x n. get_or (wires x) n Br) driver s.1 ∙ there b v g)

pub number_is : (n : ℕ) → (n == n) ≡ true
number_is n = grind (nat_tests, arith)

pub driver_is : (d : Driver) → is_same_driver d d ≡ true
driver_is Controller = refl
driver_is (Slot s) = number_is s

pub wire_is : (w : Wire) → is_same_wire w w ≡ true
wire_is (Bg level) = number_is level
wire_is Bclr = refl
wire_is Iack = refl
wire_is Berr = refl
wire_is Br = refl
wire_is BgOut = refl
wire_is Bbsy = refl
wire_is Addr = refl
wire_is AddressStrobe = refl
wire_is DataStrobe = refl
wire_is Irq = refl
wire_is IackOut = refl
wire_is Dtack = refl

pub one_wire : (a b : Wire) → is_same_wire a b ≡ true → a ≡ b
one_wire (Bg m) (Bg n) h = ap (λ x. Bg x) (same_number m n h)
one_wire Bclr Bclr h = refl
one_wire Iack Iack h = refl
one_wire Berr Berr h = refl
one_wire Br Br h = refl
one_wire BgOut BgOut h = refl
one_wire Bbsy Bbsy h = refl
one_wire Addr Addr h = refl
one_wire AddressStrobe AddressStrobe h = refl
one_wire DataStrobe DataStrobe h = refl
one_wire Irq Irq h = refl
one_wire IackOut IackOut h = refl
one_wire Dtack Dtack h = refl
one_wire a b h = absurd (cc)

pub same_drivers : (a b : Driver) → is_same_driver a b ≡ true → a ≡ b
same_drivers Controller Controller h = refl
same_drivers (Slot s) (Slot t) h = ap (λ x. Slot x) (same_number s t h)
same_drivers a b h = absurd (cc)
