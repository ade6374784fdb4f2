use Rattle.vme_standings.specs.RequestSets.{may_be}
use Rattle.vme_standings.proofs.RequestPasses.{other_keeps}
use Rattle.vme_standings.proofs.laws.other_edges_keep_requests_covered.Goals as goal

pub returns : goal.returns
returns c = λ p h e old no off covers. other_keeps p h e (may_be old) no off covers
