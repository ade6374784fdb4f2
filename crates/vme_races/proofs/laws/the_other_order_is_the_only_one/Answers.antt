use Rattle.vme_races.proofs.OneOrder.{one_or_none, one_order}
use Rattle.vme_races.proofs.laws.the_other_order_is_the_only_one.Goals as goal

pub returns : goal.returns
returns c = record { one = one_order; none = one_or_none }
