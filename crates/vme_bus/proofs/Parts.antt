-- Which part of a board a wire is of: `BusState::board_rule`, `judge`, and what its arms call.
use Rattle.std.proofs.Common.{◌≡◌, ◌∙◌, refl, sym, ap, subst, ℕ, Bool, List, true, false}
use Rattle.std.specs.Prelude.{◌&&◌, not, if◌then◌else◌, None, is_some}
use Rattle.vme_model.specs.declared.boards.Row.{Row}
use Rattle.vme_model.specs.declared.signals.Wire.{Wire}
use Rattle.vme_model.specs.declared.signals.Wire.TheVariants.{Bg, Bclr, Iack, Berr, Br, BgOut, Bbsy, Addr, AddressStrobe, DataStrobe, Irq, IackOut, Dtack}
use Rattle.vme_model.specs.declared.signals.Driver.{Driver}
use Rattle.vme_model.specs.declared.signals.Driver.TheVariants.{Controller, Slot}
use Rattle.vme_model.specs.declared.signals.Edge.{Edge}
use Rattle.vme_model.specs.declared.signals.Part.{Part}
use Rattle.vme_model.specs.declared.signals.Part.TheVariants as parts
use Rattle.vme_model.specs.Signals.{is_well_formed, has_wire, has_value, is_same_wire, part_of, is_same_part, is_of, driver_number}
use Rattle.vme_model.specs.Plan.{Plan, board_of, drives}
use Rattle.vme_model.specs.History.{shown, addressing}
use Rattle.vme_model.specs.Deliveries.{delivered_by, delivery}
use Rattle.vme_model.proofs.Bools.{and_left}
use Rattle.vme_model.proofs.Wires.{of_no_other, controllers_has, boards_has}
use Rattle.vme_bus.proofs.Stays.{apart}

-- a wire whose part was found is of that part
pub of_its_part : (p : Part) (w : Wire) (found : Part) → found ≡ part_of w → found ≡ p → is_same_part p p ≡ true → is_of p w ≡ true
of_its_part p w found is known same = ap (is_same_part p) (sym is ∙ known) ∙ same

-- a board that drives a requester's or a master's wire has a requester
has_requester : (w : Wire) (r : Row) → is_of parts.Interrupter w ≡ false → drives w r ≡ true → is_some r.requester ≡ true
has_requester (Bg n) r other d = absurd (cc)
has_requester Bclr r other d = absurd (cc)
has_requester Iack r other d = absurd (cc)
has_requester Berr r other d = absurd (cc)
has_requester Br r other d = d
has_requester BgOut r other d = d
has_requester Bbsy r other d = d
has_requester Addr r other d = d
has_requester AddressStrobe r other d = d
has_requester DataStrobe r other d = d
has_requester Irq r other d = absurd (cc)
has_requester IackOut r other d = absurd (cc)
has_requester Dtack r other d = absurd (cc)

pub requests_of : (w : Wire) (r : Row) → is_of parts.Requester w ≡ true → drives w r ≡ true → is_some r.requester ≡ true
requests_of w r known d = has_requester w r (of_no_other parts.Requester parts.Interrupter w known refl) d

pub masters_of : (w : Wire) (r : Row) → is_of parts.Master w ≡ true → drives w r ≡ true → is_some r.requester ≡ true
masters_of w r known d = has_requester w r (of_no_other parts.Master parts.Interrupter w known refl) d

-- a wire's driver is of its kind
wire_of : (e : Edge) → is_well_formed e ≡ true → has_wire e.driver e.wire ≡ true
wire_of e formed = and_left (has_wire e.driver e.wire) (has_value e.wire e.fall e.value) formed

-- an edge that the controller can not make is of the slot that it names
pub slot_alone : (e : Edge) (s : ℕ) → s ≡ driver_number e.driver → (e.driver ≡ Controller → ⊥) → e.driver ≡ Slot s
slot_alone e s named other = by_driver e.driver refl
  where
    by_driver : (d : Driver) → e.driver ≡ d → e.driver ≡ Slot s
    by_driver Controller is = absurd (other is)
    by_driver (Slot t) is = is ∙ ap Slot (sym (named ∙ ap driver_number is))

-- an edge of a board's part is not the controller's, and one of the controller's part is not a board's
pub board_alone : (p : Part) → is_same_part parts.Controller p ≡ false → (e : Edge) → e.driver ≡ Controller → is_of p e.wire ≡ true → is_well_formed e ≡ true → ⊥
board_alone p other e driver known formed =
    let has = controllers_has e.wire (subst (λ d. has_wire d e.wire ≡ true) driver (wire_of e formed)) in
    let has_not = of_no_other p parts.Controller e.wire known other in cc

pub controller_alone : (e : Edge) (s : ℕ) → e.driver ≡ Slot s → is_of parts.Controller e.wire ≡ true → is_well_formed e ≡ true → ⊥
controller_alone e s driver known formed =
    let has_not = boards_has s e.wire (subst (λ d. has_wire d e.wire ≡ true) driver (wire_of e formed)) in cc

-- an edge that is no answer delivers nothing
not_answered : (w : Wire) → is_of parts.Interrupter w ≡ false → is_same_wire w Dtack ≡ false
not_answered w other = apart (λ x. not (is_of parts.Interrupter x)) w Dtack (ap not other) refl

never_both : (a b : Bool) → b ≡ false → (a && b) ≡ false
never_both true b e = e
never_both false b e = refl

pub no_delivery : (p : Plan) (h : List Edge) (e : Edge) → is_of parts.Interrupter e.wire ≡ false → None ≡ delivery p h e
no_delivery p h e other =
    sym (ap (λ b. if b then delivered_by (shown p h) (addressing p h) (board_of p e.driver) else None) (never_both e.fall (is_same_wire e.wire Dtack) (not_answered e.wire other)))
