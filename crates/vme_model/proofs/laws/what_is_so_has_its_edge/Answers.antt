use Rattle.vme_model.proofs.Numbers.{low_has_since, served_has_since, strobed_has_number}
use Rattle.vme_model.proofs.laws.what_is_so_has_its_edge.Goals as goal

pub returns-clause-low : goal.returns-clause-low
returns-clause-low c = low_has_since

pub returns-clause-served : goal.returns-clause-served
returns-clause-served c = served_has_since

pub returns-clause-strobed : goal.returns-clause-strobed
returns-clause-strobed c = strobed_has_number
