use Rattle.std.proofs.Common.{◌∙◌}
use Rattle.vme_histories.proofs.Considered.{next}
use Rattle.vme_wiring.proofs.judging.WiringJudges.next_board.Goals as goal

pub returns : goal.returns
returns c version p h is =
    c.or.ensures ∙ next p c.args.slot c.board_above.result c.board_above-2.result (c.board_above.ensures version p h is) (c.board_above-2.ensures version p h is)
