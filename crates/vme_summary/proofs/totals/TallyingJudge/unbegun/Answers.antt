use Rattle.vme_summary.proofs.TraceSums.{tallies_unbegun}
use Rattle.vme_summary.proofs.totals.TallyingJudge.unbegun.Goals as goal

pub returns : goal.returns
returns c = tallies_unbegun c.args._task.now
