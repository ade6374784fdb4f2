use Rattle.vme_model.specs.Signals.{is_well_formed}
use Rattle.vme_model.specs.Plan.{has_driver}
use Rattle.vme_model.proofs.Bools.{and_left}
use Rattle.vme_histories.proofs.JudgedParts.{exists_accepted}
use Rattle.vme_bus.proofs.Parts.{controller_alone}
use Rattle.vme_bus.proofs.states.BusState.note_controller.Goals as goal

pub returns-in-Slot : goal.returns-in-Slot
returns-in-Slot c version p h is allowed =
    let e = c.args.edge in
    absurd (controller_alone e c.in-Slot.field-0 c.in-Slot.is c.requires (and_left (is_well_formed e) (has_driver p e.driver e.wire) (exists_accepted version p h e allowed)))
