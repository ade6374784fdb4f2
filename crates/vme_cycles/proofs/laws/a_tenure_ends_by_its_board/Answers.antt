use Rattle.vme_cycles.proofs.OneTenure.{tenure_ends_by_its_board}
use Rattle.vme_cycles.proofs.laws.a_tenure_ends_by_its_board.Goals as goal

pub returns : goal.returns
returns c = tenure_ends_by_its_board
