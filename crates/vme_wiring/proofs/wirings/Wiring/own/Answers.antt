use Rattle.std.proofs.Common.{◌≡◌, ◌∙◌, sym, ap, false}
use Rattle.std.specs.Prelude.{Some, None}
use Rattle.std.specs.Option.{option_copied}
use Rattle.vme_model.specs.declared.signals.Driver.{Driver}
use Rattle.vme_model.specs.Plan.{board}
use Rattle.vme_model.specs.History.{drive}
use Rattle.vme_arbiter.specs.Local.{low}
use Rattle.vme_wiring.proofs.Noting.{placed_board}
use Rattle.vme_wiring.proofs.Seeing.{own_of_controller, own_of_board, own_of_none, no_board_in}
use Rattle.vme_wiring.proofs.wirings.Wiring.own.Goals as goal

pub returns-in-Controller : goal.returns-in-Controller
returns-in-Controller c version p h is =
    c.is_low.ensures ∙ ap (λ a. low a.1 c.args.wire) is.arbiter ∙ own_of_controller version p h c.args.wire is.legal
    ∙ sym (ap (λ (d : Driver). drive h d c.args.wire) c.in-Controller.is)

pub returns-in-Some : goal.returns-in-Some
returns-in-Some c version p h is =
    let k = placed_board version p h c.in-Slot.slot c.in-Some.board.now c.args.self.now is (sym (ap option_copied c.in-Some.is) ∙ c.board.ensures) in
    c.is_low-in-Some.ensures ∙ own_of_board version p h c.in-Slot.slot k.row c.in-Some.board.now c.args.wire is.legal k.found k.stands.slot k.is
    ∙ sym (ap (λ (d : Driver). drive h d c.args.wire) c.in-Slot.is)

pub returns-in-None : goal.returns-in-None
returns-in-None c version p h is =
    own_of_none version p h c.in-Slot.slot c.args.wire is.legal (no_board_in version p h c.args.self.now c.in-Slot.slot is (sym c.board.ensures ∙ ap option_copied c.in-None.is))
    ∙ sym (ap (λ (d : Driver). drive h d c.args.wire) c.in-Slot.is)
