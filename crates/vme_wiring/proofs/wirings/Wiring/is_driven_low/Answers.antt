use Rattle.std.proofs.Common.{◌∙◌, sym, ap}
use Rattle.std.specs.Option.{option_copied}
use Rattle.vme_model.specs.declared.signals.Driver.{Driver}
use Rattle.vme_model.specs.History.{drive}
use Rattle.vme_arbiter.specs.Local.{low}
use Rattle.vme_wiring.proofs.ConsideredReads.{own_of_place}
use Rattle.vme_histories.proofs.Drivers.{own_of_none}
use Rattle.vme_wiring.proofs.FieldReads.{no_board_in, own_of_controller}
use Rattle.vme_wiring.proofs.wirings.Wiring.is_driven_low.Goals as goal

pub returns-in-Controller : goal.returns-in-Controller
returns-in-Controller c version p h is =
    c.is_low.ensures ∙ ap (λ a. low a.1 c.args.wire) is.arbiter ∙ own_of_controller version p h c.args.wire is.legal
    ∙ sym (ap (λ (d : Driver). drive h d c.args.wire) c.in-Controller.is)

pub returns-in-Some : goal.returns-in-Some
returns-in-Some c version p h is =
    c.is_low-in-Some.ensures
    ∙ own_of_place version p h c.args.self.now is c.in-Slot.slot c.in-Some.board.now c.args.wire (sym (ap option_copied c.in-Some.is) ∙ c.board.ensures)
    ∙ sym (ap (λ (d : Driver). drive h d c.args.wire) c.in-Slot.is)

pub returns-in-None : goal.returns-in-None
returns-in-None c version p h is =
    own_of_none version p h c.in-Slot.slot c.args.wire is.legal (no_board_in version p h c.args.self.now c.in-Slot.slot is (sym c.board.ensures ∙ ap option_copied c.in-None.is))
    ∙ sym (ap (λ (d : Driver). drive h d c.args.wire) c.in-Slot.is)
