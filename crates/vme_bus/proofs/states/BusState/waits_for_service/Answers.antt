use Rattle.std.proofs.Common.{◌∙◌, sym, ap, Bool, ℕ}
use Rattle.std.specs.Prelude.{◌&&◌, not, Option}
use Rattle.vme_model.specs.declared.signals.Cycle.{Cycle}
use Rattle.vme_model.specs.declared.signals.Driver.TheVariants.{Slot}
use Rattle.vme_model.specs.declared.signals.Wire.TheVariants.{Dtack, Irq, IackOut}
use Rattle.vme_model.specs.History.{drive, shown}
use Rattle.vme_model.specs.Readings.{iack_in, is_served}
use Rattle.vme_wiring.specs.Waits.{is_access_to}
use Rattle.vme_wiring.proofs.AllowedBoards.{stands}
use Rattle.vme_bus.specs.declared.records.Seat.{Seat}
use Rattle.vme_bus.proofs.WaitingParts.{for_service, for_answers, same_five}
use Rattle.vme_bus.proofs.states.BusState.waits_for_service.Goals as goal

pub returns-in-Some : goal.returns-in-Some
returns-in-Some c version p h r is found same =
    let s = c.args.slot in
    let slot = sym (stands p s r is.accepted found).slot in
    let access = c.is_accessed.ensures ∙ ap (λ (v : Option Cycle). is_access_to s v) is.shown ∙ ap (λ (t : ℕ). is_access_to t (shown p h)) slot in
    let f : Bool → Bool → Bool → Bool → Bool → Bool = λ dtack access out iack irq. (((not dtack && not access) && (not out && not iack)) && irq) && not c.has-in-Some-3.result in
    same_five f _ _ _ _ _ _ _ _ _ _
    (c.has.ensures ∙ is.dtack s) access (c.has-in-Some.ensures ∙ is.acknowledges s c.requires) (c.iack_in.ensures version p h r is found same) (c.has-in-Some-2.ensures ∙ is.irq s)
    ∙ ap (λ b. (((not (drive h (Slot s) Dtack) && not (is_access_to r.slot (shown p h))) && (not (drive h (Slot s) IackOut) && not (iack_in p h (Slot s)))) && drive h (Slot s) Irq) && not b) (c.has-in-Some-3.ensures ∙ is.served s)
    ∙ for_service r c.in-Some.field-0 (drive h (Slot s) Dtack) (is_access_to r.slot (shown p h)) (drive h (Slot s) IackOut) (iack_in p h (Slot s)) (drive h (Slot s) Irq) (is_served p h (Slot s))
    (sym (ap (λ (x : Seat). x.row.interrupter) same) ∙ sym c.interrupter.ensures ∙ c.in-Some.is)

pub returns-in-None : goal.returns-in-None
returns-in-None c version p h r is found same =
    let s = c.args.slot in
    let slot = sym (stands p s r is.accepted found).slot in
    let access = c.is_accessed.ensures ∙ ap (λ (v : Option Cycle). is_access_to s v) is.shown ∙ ap (λ (t : ℕ). is_access_to t (shown p h)) slot in
    ap (λ b. not b && not c.is_accessed.result) (c.has.ensures ∙ is.dtack s)
    ∙ ap (λ b. not (drive h (Slot s) Dtack) && not b) access
    ∙ for_answers r (drive h (Slot s) Dtack) (is_access_to r.slot (shown p h)) (drive h (Slot s) IackOut) (iack_in p h (Slot s)) (drive h (Slot s) Irq) (is_served p h (Slot s))
    (sym (ap (λ (x : Seat). x.row.interrupter) same) ∙ sym c.interrupter.ensures ∙ c.in-None.is)
