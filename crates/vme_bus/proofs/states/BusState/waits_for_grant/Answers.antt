use Rattle.std.proofs.Common.{◌∙◌, sym, ap, Bool}
use Rattle.std.specs.Prelude.{◌&&◌, not}
use Rattle.vme_model.specs.declared.signals.Driver.TheVariants.{Slot}
use Rattle.vme_model.specs.declared.signals.Wire.TheVariants.{Br, BgOut, Bbsy}
use Rattle.vme_model.specs.Signals.{is_two}
use Rattle.vme_model.specs.History.{drive}
use Rattle.vme_model.specs.Readings.{grant_in}
use Rattle.vme_bus.specs.declared.records.Seat.{Seat}
use Rattle.vme_bus.proofs.WaitingParts.{for_grant, same_five}
use Rattle.vme_bus.proofs.states.BusState.waits_for_grant.Goals as goal

pub returns-in-Some : goal.returns-in-Some
returns-in-Some c version p h r is found same =
    let s = c.args.slot in
    let f : Bool → Bool → Bool → Bool → Bool → Bool = λ br out bbsy two grant. (((br && not out) && not bbsy) && not two) && not grant in
    same_five f _ _ _ _ _ _ _ _ _ _
    (c.has.ensures ∙ is.br s) (c.has-in-Some.ensures ∙ is.grants s c.requires) (c.has-in-Some-2.ensures ∙ is.bbsy s)
    (c.is_two.ensures ∙ ap is_two c.version.ensures ∙ ap is_two is.rules) (c.grant_in.ensures version p h r is found same)
    ∙ for_grant r c.in-Some.field-0 (drive h (Slot s) Br) (drive h (Slot s) BgOut) (drive h (Slot s) Bbsy) (is_two version) (grant_in p h (Slot s))
    (sym (ap (λ (x : Seat). x.row.requester) same) ∙ sym c.requester.ensures ∙ c.in-Some.is)
