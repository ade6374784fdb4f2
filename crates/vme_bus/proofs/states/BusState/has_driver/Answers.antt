use Rattle.std.proofs.Common.{◌∙◌, sym, ap, false}
use Rattle.std.specs.Prelude.{Option}
use Rattle.std.specs.Option.{option_map_or}
use Rattle.vme_model.specs.declared.boards.Row.{Row}
use Rattle.vme_model.specs.declared.signals.Driver.{Driver}
use Rattle.vme_model.specs.Plan.{drives, has_driver}
use Rattle.vme_bus.specs.declared.records.Seat.{Seat}
use Rattle.vme_bus.proofs.OneSlot.{seated}
use Rattle.vme_bus.proofs.states.BusState.has_driver.Goals as goal

pub returns-in-Some : goal.returns-in-Some
returns-in-Some c version p h is =
    let s = c.in-Slot.slot in
    let w = c.args.wire in
    let k = seated p s c.in-Some.seat (sym c.in-Some.is ∙ c.seat.ensures ∙ is.layout.seats s) in
    c.drives.ensures
    ∙ ap (λ (x : Seat). drives w x.row) k.same
    ∙ sym (ap (λ (o : Option Row). option_map_or (drives w) o false) k.found)
    ∙ sym (ap (λ (d : Driver). has_driver p d w) c.in-Slot.is)
