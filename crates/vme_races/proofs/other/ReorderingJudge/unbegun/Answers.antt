use Rattle.vme_races.proofs.OtherOrders.{orders_unbegun}
use Rattle.vme_races.proofs.other.ReorderingJudge.unbegun.Goals as goal

pub returns : goal.returns
returns c = orders_unbegun c.args._task.now.edge
