use Rattle.vme_reading.proofs.SoughtEdges.{seeks_unbegun}
use Rattle.vme_reading.proofs.seeking.SeekingJudge.unbegun.Goals as goal

pub returns : goal.returns
returns g c = λ p trace s f kept h.
    seeks_unbegun (g.S.AtEdge.writes p) g.S.AtEdge.fails c.args._task.now.edge p trace s f kept h
