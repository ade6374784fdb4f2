use Rattle.std.proofs.Common.{◌≡◌, ◌∙◌, sym, ap, true, false}
use Rattle.std.specs.Prelude.{◌&&◌}
use Rattle.vme_model.specs.declared.signals.Driver.TheVariants.{Slot}
use Rattle.vme_model.specs.Readings.{readings}
use Rattle.vme_wiring.specs.Waits.{waits_for_cycle, is_unserved}
use Rattle.vme_wiring.proofs.LongerHistory.{placed_board}
use Rattle.vme_wiring.proofs.NoOffers.{reads_cycle, reads_service}
use Rattle.vme_wiring.proofs.wirings.Wiring.is_interrupter_waiting.Goals as goal

pub returns-then-waits_for_cycle : goal.returns-then-waits_for_cycle
returns-then-waits_for_cycle c version p h s is here =
    let w = c.args.self.now in
    let b = c.args.board.now in
    let k = placed_board version p h s b w is here in
    let quiet : waits_for_cycle (readings p h (Slot s)) b.row ≡ true = sym (c.waits_for_cycle.ensures ∙ reads_cycle version p h w s b is here) ∙ c.if-waits_for_cycle.true in
    c.is_unserved.ensures version p h k.row k.is w ∙ reads_service version p h w s b is here
    ∙ sym (ap (λ x. x && is_unserved (readings p h (Slot s)) b.row) quiet)

pub returns-else-waits_for_cycle : goal.returns-else-waits_for_cycle
returns-else-waits_for_cycle c version p h s is here =
    let w = c.args.self.now in
    let b = c.args.board.now in
    let heard : waits_for_cycle (readings p h (Slot s)) b.row ≡ false = sym (c.waits_for_cycle.ensures ∙ reads_cycle version p h w s b is here) ∙ c.if-waits_for_cycle.false in
    c.if-waits_for_cycle.false ∙ sym (ap (λ x. x && is_unserved (readings p h (Slot s)) b.row) heard)
