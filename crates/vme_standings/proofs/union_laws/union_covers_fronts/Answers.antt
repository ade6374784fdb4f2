use Rattle.vme_standings.proofs.UnionLaws.{fronts_covered}
use Rattle.vme_standings.proofs.union_laws.union_covers_fronts.Goals as goal

pub returns : goal.returns
returns c = fronts_covered
