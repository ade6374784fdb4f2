use Rattle.std.proofs.Common.{refl, arith}
use Rattle.vme_model.specs.Signals.{is_well_formed}
use Rattle.vme_model.specs.Plan.{has_driver}
use Rattle.vme_model.proofs.Bools.{and_left}
use Rattle.vme_histories.proofs.JudgedParts.{exists_accepted}
use Rattle.vme_histories.proofs.AllowedBoards.{stands}
use Rattle.vme_histories.proofs.Drivers.{standing}
use Rattle.vme_model.specs.declared.signals.Part.TheVariants as parts
use Rattle.vme_bus.proofs.Parts.{board_alone}
use Rattle.vme_bus.proofs.states.BusState.note_master.Goals as goal

pub returns-in-Controller : goal.returns-in-Controller
returns-in-Controller c version p h is allowed =
    let e = c.args.edge in
    absurd (board_alone parts.Master refl e c.in-Controller.is c.requires (and_left (is_well_formed e) (has_driver p e.driver e.wire) (exists_accepted version p h e allowed)))

pub returns-else-slot-lt22 : goal.returns-else-slot-lt22
returns-else-slot-lt22 c version p h is allowed =
    let k = standing version p h c.in-Slot.slot c.args.edge allowed c.in-Slot.is in
    let near = (stands p c.in-Slot.slot k.row is.accepted k.found).near in
    absurd (omega arith)
