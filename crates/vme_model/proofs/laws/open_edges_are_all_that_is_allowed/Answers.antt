use Rattle.vme_model.proofs.OpenEdges.{open_are_all}
use Rattle.vme_model.proofs.laws.open_edges_are_all_that_is_allowed.Goals as goal

pub returns : goal.returns
returns c = open_are_all
