use Rattle.vme_standings.proofs.UnionCovers.{first_covers, second_covers}
use Rattle.vme_standings.proofs.union_laws.union_covers_the_bus.Goals as goal

pub returns : goal.returns
returns c = record {
  first = λ version p pins h a b new ok legal unites covers. first_covers version p pins ok h legal a b new unites covers;
  other = λ version p pins h a b new ok legal unites alike covers. second_covers version p pins ok h legal a b new unites alike covers;
}
