use Rattle.vme_swaps.proofs.Behind.{swaps_back}
use Rattle.vme_swaps.proofs.Free.{free_back}
use Rattle.vme_swaps.proofs.laws.free_swaps_go_back.Goals as goal

pub returns-clause-one : goal.returns-clause-one
returns-clause-one c = free_back

pub returns-clause-all : goal.returns-clause-all
returns-clause-all c = swaps_back
