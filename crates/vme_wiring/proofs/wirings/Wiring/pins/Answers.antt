use Rattle.std.proofs.Common.{◌∙◌, sym, ap}
use Rattle.std.specs.Option.{option_copied}
use Rattle.vme_model.specs.declared.signals.Driver.{Driver}
use Rattle.vme_model.specs.declared.signals.Driver.TheVariants.{Slot}
use Rattle.vme_model.specs.Plan.{board}
use Rattle.vme_model.specs.Views.{pins}
use Rattle.vme_wiring.proofs.LongerHistory.{placed_board}
use Rattle.vme_wiring.proofs.FieldReads.{pins_of_board}
use Rattle.vme_wiring.proofs.wirings.Wiring.pins.Goals as goal

pub returns-in-Some : goal.returns-in-Some
returns-in-Some c version p h is =
    let k = placed_board version p h c.in-Slot.slot c.in-Some.board.now c.args.self.now is (sym (ap option_copied c.in-Some.is) ∙ c.board.ensures) in
    c.pins_at.ensures
    ∙ pins_of_board version p h c.args.self.now c.in-Some.board.now k.row is k.same_row (ap (board p) k.stands.slot ∙ k.found)
    ∙ ap (λ s. pins p h (Slot s)) k.stands.slot
    ∙ sym (ap (λ (d : Driver). pins p h d) c.in-Slot.is)
