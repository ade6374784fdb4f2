use Rattle.vme_cycles.proofs.OneCycle.{cycle_ends_by_its_board}
use Rattle.vme_cycles.proofs.laws.a_cycle_ends_by_its_board.Goals as goal

pub returns : goal.returns
returns c = cycle_ends_by_its_board
