use Rattle.std.proofs.Common.{◌∙◌, sym, ap}
use Rattle.std.specs.Option.{option_copied}
use Rattle.vme_model.specs.declared.signals.Driver.{Driver}
use Rattle.vme_model.specs.declared.signals.Driver.TheVariants.{Slot}
use Rattle.vme_model.specs.Readings.{readings}
use Rattle.vme_wiring.specs.Asked.{read_by}
use Rattle.vme_wiring.specs.Waits.{is_waiting, is_unserved, waits_for_bus, waits_for_cycle, waits_for_grant}
use Rattle.vme_wiring.specs.declared.boards.Board.{Board}
use Rattle.vme_wiring.proofs.LongerHistory.{placed_board}
use Rattle.vme_wiring.proofs.Quiet.{quiet_reads, all_but_last, one_moves}
use Rattle.vme_wiring.proofs.NoOffers.{reads_service, waits_here, waiting_none}
use Rattle.vme_wiring.proofs.wirings.Wiring.is_waiting.Goals as goal

pub returns-then-is_board_waiting-clause-waits : goal.returns-then-is_board_waiting-clause-waits
returns-then-is_board_waiting-clause-waits c version p h is =
    let s = c.in-Slot.slot in
    let w = c.args.self.now in
    let b = c.in-Some.placed.now in
    let seen = readings p h (Slot s) in
    let here = sym (ap option_copied c.in-Some.is) ∙ c.placed.ensures in
    let k = placed_board version p h s b w is here in
    c.is_unserved.ensures version p h k.row (c.board.ensures ∙ k.is) w
    ∙ ap (λ (x : Board). is_unserved (read_by w x) x.row) c.board.ensures
    ∙ reads_service version p h w s b is here
    ∙ all_but_last (waits_for_grant version seen b.row) (waits_for_bus seen) (waits_for_cycle seen b.row) (is_unserved seen b.row)
    (sym (quiet_reads version p h w s b is here) ∙ sym c.is_board_waiting.ensures ∙ c.if-is_board_waiting.true)
    ∙ sym (waits_here version p h w s b is here)
    ∙ sym (ap (λ (d : Driver). is_waiting version p h d) c.in-Slot.is)

pub returns-then-is_board_waiting-clause-none : goal.returns-then-is_board_waiting-clause-none
returns-then-is_board_waiting-clause-none c version p h is waits =
    waiting_none version p h c.args.driver is.legal (sym (returns-then-is_board_waiting-clause-waits c version p h is) ∙ waits)

pub returns-else-is_board_waiting-clause-waits : goal.returns-else-is_board_waiting-clause-waits
returns-else-is_board_waiting-clause-waits c version p h is =
    let s = c.in-Slot.slot in
    let w = c.args.self.now in
    let b = c.in-Some.placed.now in
    let seen = readings p h (Slot s) in
    let here = sym (ap option_copied c.in-Some.is) ∙ c.placed.ensures in
    c.if-is_board_waiting.false
    ∙ one_moves (waits_for_grant version seen b.row) (waits_for_bus seen) (waits_for_cycle seen b.row) (is_unserved seen b.row)
    (sym (quiet_reads version p h w s b is here) ∙ sym c.is_board_waiting.ensures ∙ c.if-is_board_waiting.false)
    ∙ sym (waits_here version p h w s b is here)
    ∙ sym (ap (λ (d : Driver). is_waiting version p h d) c.in-Slot.is)
