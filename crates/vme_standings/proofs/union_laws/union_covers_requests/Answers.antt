use Rattle.vme_standings.proofs.UnionLaws.{requests_covered}
use Rattle.vme_standings.proofs.union_laws.union_covers_requests.Goals as goal

pub returns : goal.returns
returns c = requests_covered
