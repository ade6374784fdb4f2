use Rattle.vme_standings.proofs.UnionLaws.{phases_had}
use Rattle.vme_standings.proofs.union_laws.union_has_phases.Goals as goal

pub returns : goal.returns
returns c = phases_had
