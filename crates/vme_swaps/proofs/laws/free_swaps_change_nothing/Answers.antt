use Rattle.vme_swaps.proofs.Behind.{same_by_swaps}
use Rattle.vme_swaps.proofs.laws.free_swaps_change_nothing.Goals as goal

pub returns-clause-legal : goal.returns-clause-legal
returns-clause-legal c = λ version p g h accepted legal one. (same_by_swaps version p g h accepted legal one).legal

pub returns-clause-edges : goal.returns-clause-edges
returns-clause-edges c = λ version p g h accepted legal one. (same_by_swaps version p g h accepted legal one).edges

pub returns-clause-delivered : goal.returns-clause-delivered
returns-clause-delivered c = λ version p g h accepted legal one. (same_by_swaps version p g h accepted legal one).delivered

pub returns-clause-stand : goal.returns-clause-stand
returns-clause-stand c = λ version p g h accepted legal one. (same_by_swaps version p g h accepted legal one).alike
