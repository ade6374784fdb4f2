use Rattle.vme_races.proofs.LegalOrders.{legal_but_last}
use Rattle.vme_races.proofs.laws.the_other_order_is_legal_but_for_its_last_edge.Goals as goal

pub returns : goal.returns
returns c = legal_but_last
