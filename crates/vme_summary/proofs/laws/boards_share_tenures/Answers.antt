use Rattle.vme_summary.proofs.Shares.{by_one_board_each}
use Rattle.vme_summary.proofs.laws.boards_share_tenures.Goals as goal

pub returns : goal.returns
returns c = by_one_board_each
