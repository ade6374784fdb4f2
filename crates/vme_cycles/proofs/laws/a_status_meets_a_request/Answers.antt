use Rattle.vme_cycles.proofs.NamedEdges.{status_meets_request}
use Rattle.vme_cycles.proofs.laws.a_status_meets_a_request.Goals as goal

pub returns : goal.returns
returns c = status_meets_request
