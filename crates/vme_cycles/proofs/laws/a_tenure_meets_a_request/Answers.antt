use Rattle.vme_cycles.proofs.NamedEdges.{tenure_meets_request}
use Rattle.vme_cycles.proofs.laws.a_tenure_meets_a_request.Goals as goal

pub returns : goal.returns
returns c = tenure_meets_request
