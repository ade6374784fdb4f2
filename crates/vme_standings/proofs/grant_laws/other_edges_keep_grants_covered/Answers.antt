use Rattle.vme_standings.proofs.GrantOthers.{keeps}
use Rattle.vme_standings.proofs.grant_laws.other_edges_keep_grants_covered.Goals as goal

pub returns : goal.returns
returns c = λ p h e old a b d covers. keeps p h e old a b d covers
