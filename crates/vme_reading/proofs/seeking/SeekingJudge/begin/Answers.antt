use Rattle.std.proofs.Common.{refl}
use Rattle.vme_reading.proofs.SoughtEdges.{passed_none}
use Rattle.vme_reading.proofs.seeking.SeekingJudge.begin.Goals as goal

pub returns-clause-stands : goal.returns-clause-stands
returns-clause-stands g c = λ p v old is. (
  refl,
  refl,
  passed_none g.S.AtEdge.stands c.args.task.now.edge p v _ (c.begin.ensures p v is),
)
