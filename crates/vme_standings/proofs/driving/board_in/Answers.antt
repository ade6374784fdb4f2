use Rattle.std.proofs.Common.{◌∙◌, sym}
use Rattle.vme_standings.proofs.Growing.{same_both}
use Rattle.vme_standings.proofs.Slots.{board_there, no_board_at, none_held}
use Rattle.vme_standings.proofs.driving.board_in.Goals as goal

pub returns-then-slot-lt22 : goal.returns-then-slot-lt22
returns-then-slot-lt22 c s =
    c.row_if.ensures s
    ∙ same_both _ _ _ _ c.has_board.ensures (c.just.ensures s)
    ∙ board_there c.args.plan.now c.args.slot s

pub returns-else-slot-lt22 : goal.returns-else-slot-lt22
returns-else-slot-lt22 c s =
    none_held s ∙ sym (no_board_at c.args.plan.now c.accepted.ensures c.args.slot s c.if-slot-lt22.false)
