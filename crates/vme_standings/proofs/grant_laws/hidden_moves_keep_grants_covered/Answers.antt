use Rattle.vme_standings.proofs.GrantHidden.{moves_cover}
use Rattle.vme_standings.proofs.grant_laws.hidden_moves_keep_grants_covered.Goals as goal

pub returns : goal.returns
returns c = λ version p h old new ok legal kept covers. moves_cover version p ok h legal old new kept covers
