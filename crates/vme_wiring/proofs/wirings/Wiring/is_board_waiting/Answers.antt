use Rattle.std.proofs.Common.{◌∙◌, sym, ap}
use Rattle.std.specs.Prelude.{◌&&◌}
use Rattle.vme_wiring.specs.Asked.{seen_by}
use Rattle.vme_wiring.specs.Waits.{is_left_alone}
use Rattle.vme_wiring.specs.declared.boards.Board.{Board}
use Rattle.vme_wiring.proofs.wirings.Wiring.is_board_waiting.Goals as goal

pub returns-then-is_quiet : goal.returns-then-is_quiet
returns-then-is_quiet c =
    let w = c.args.self.now in
    let alone = λ (b : Board). is_left_alone w.version (seen_by w.chains w.shared b.row) b.row in
    c.is_left_alone.ensures ∙ ap alone c.board.ensures
    ∙ sym (ap (λ x. x && alone c.args.placed.now) (sym c.is_quiet.ensures ∙ c.if-is_quiet.true))
