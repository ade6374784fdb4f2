use Rattle.vme_moments.proofs.InOrder.{result_few, result_formed, result_in_order}
use Rattle.vme_moments.proofs.reader.read_moments.Goals as goal

pub returns-clause-ordered : goal.returns-clause-ordered
returns-clause-ordered g c = result_in_order _ _ _ c.read_all.ensures

pub returns-clause-few : goal.returns-clause-few
returns-clause-few g c = result_few _ _ _ c.read_all.ensures

pub returns-clause-formed : goal.returns-clause-formed
returns-clause-formed g c = result_formed _ _ _ c.read_all.ensures
