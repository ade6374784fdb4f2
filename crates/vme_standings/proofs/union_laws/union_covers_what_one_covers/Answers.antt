use Rattle.vme_standings.proofs.UnionLaws.{requests_covered, drivers_covered, fronts_covered, phases_had}
use Rattle.vme_standings.proofs.union_laws.union_covers_what_one_covers.Goals as goal

pub returns : goal.returns
returns c = record {
  requests = requests_covered;
  drivers = drivers_covered;
  fronts = fronts_covered;
  phases = phases_had;
}
