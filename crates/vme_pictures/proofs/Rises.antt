-- Which wires of a plan are low, by the answers to a rise.
use Rattle.std.proofs.Common.{◌≡◌, ◌∙◌, ℕ, Bool, true, false, Option, Some, None, Ok, unwrap_or, refl, sym, ap}
use Rattle.std.specs.Prelude.{◌&&◌, if◌then◌else◌}
use Rattle.vme_model.specs.declared.deliveries.Delivery.{Delivery}
use Rattle.vme_model.specs.declared.refusals.Refused.TheVariants.{NoSuchDriver, AlreadyThere, Rule, NotSettled, TraceFull}
use Rattle.vme_model.specs.declared.signals.Driver.{Driver}
use Rattle.vme_model.specs.declared.signals.Wire.{Wire}
use Rattle.vme_model.specs.declared.signals.Wire.TheVariants.{Bg, Bclr, Iack, Berr, Br, BgOut, Bbsy, Addr, AddressStrobe, DataStrobe, Irq, IackOut, Dtack}
use Rattle.vme_model.specs.declared.signals.Edge.{Edge}
use Rattle.vme_model.specs.Signals.{has_wire, has_value}
use Rattle.vme_model.specs.Plan.{has_driver}
use Rattle.vme_model.specs.History.{drive}
use Rattle.vme_model.specs.Accepted.{IsAccepted}
use Rattle.vme_model.specs.Readings.{readings}
use Rattle.vme_model.specs.Rules.{rule}
use Rattle.vme_model.specs.Settling.{settling}
use Rattle.vme_model.specs.Guards.{holds}
use Rattle.vme_model.specs.Verdict.{State, Judgement, check, room_guard}
use Rattle.vme_model.specs.Deliveries.{answer, delivery, with_delivery}
use Rattle.vme_reasons.proofs.OnPlan.{wire_of_driver}
use Rattle.vme_pictures.specs.Columns.{low_by}

-- a rise of a driver's wire
abbrev pub rise : Driver → Wire → Edge
rise d w = record { driver = d; wire = w; fall = false; value = None }

-- no refusal after E2 tells of the wire
later : (v : Option Delivery) (a c r : Bool) (k n : ℕ) → low_by (with_delivery (check a (Rule k) (check c (NotSettled n) (check r TraceFull (Ok tt)))) v) ≡ Some true
later v false c r k n = refl
later v true false r k n = refl
later v true true false k n = refl
later v true true true k n = refl

told : (v : Option Delivery) (has low : Bool) (rest : Judgement) → low_by (with_delivery rest v) ≡ Some true
    → low_by (with_delivery (check has NoSuchDriver (check low AlreadyThere rest)) v) ≡ (if has then Some low else None)
told v false low rest h = refl
told v true false rest h = refl
told v true true rest h = h

no_value : (w : Wire) → has_value w false None ≡ true
no_value (Bg n) = refl
no_value Bclr = refl
no_value Iack = refl
no_value Berr = refl
no_value Br = refl
no_value BgOut = refl
no_value Bbsy = refl
no_value Addr = refl
no_value AddressStrobe = refl
no_value DataStrobe = refl
no_value Irq = refl
no_value IackOut = refl
no_value Dtack = refl

both : (a b c : Bool) → b ≡ true → (c ≡ true → a ≡ true) → ((a && b) && c) ≡ c
both true true true h k = refl
both true true false h k = refl
both false true true h k = absurd (let e = k refl in cc)
both false true false h k = refl
both a false c h k = absurd (cc)

pub rise_told : (b : State) (d : Driver) (w : Wire) → IsAccepted b.plan → low_by (answer b (rise d w)) ≡ (if has_driver b.plan d w then Some (drive b.history d w) else None)
rise_told b d w accepted =
    told (delivery b.plan b.history (rise d w)) ((has_wire d w && has_value w false None) && has_driver b.plan d w) (drive b.history d w) _
    (later (delivery b.plan b.history (rise d w)) (rule b.version (readings b.plan b.history d) w false None).1 (settling b.version b.plan b.history w false).1 (holds (room_guard b)) (rule b.version (readings b.plan b.history d) w false None).0
    (settling b.version b.plan b.history w false).0)
    ∙ ap (λ (x : Bool). if x then Some (drive b.history d w) else None) (both (has_wire d w) (has_value w false None) (has_driver b.plan d w) (no_value w) (wire_of_driver b.plan accepted d w))

-- a wire that is not there is not low
pub or_high : (has low : Bool) → (has ≡ false → low ≡ false) → unwrap_or (if has then Some low else None) false ≡ low
or_high true low h = refl
or_high false low h = sym (h refl)

-- what a state tells
pub some_state : (has low v : Bool) → (if has then Some low else None) ≡ Some v → (has ≡ true) × (v ≡ low)
some_state true low v h = (refl, cc)
some_state false low v h = absurd (cc)

pub no_state : (has low : Bool) → (if has then Some low else None) ≡ None → has ≡ false
no_state true low h = absurd (cc)
no_state false low h = refl
