use Rattle.vme_standings.proofs.UnionLaws.{drivers_covered}
use Rattle.vme_standings.proofs.union_laws.union_covers_drivers.Goals as goal

pub returns : goal.returns
returns c = drivers_covered
