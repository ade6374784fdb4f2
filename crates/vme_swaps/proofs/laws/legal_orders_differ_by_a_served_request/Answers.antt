use Rattle.vme_swaps.proofs.Behind.{same_deliveries}
use Rattle.vme_swaps.proofs.Free.{differs}
use Rattle.vme_swaps.proofs.laws.legal_orders_differ_by_a_served_request.Goals as goal

pub returns-clause-delivered : goal.returns-clause-delivered
returns-clause-delivered c = same_deliveries

pub returns-clause-free : goal.returns-clause-free
returns-clause-free c = differs
