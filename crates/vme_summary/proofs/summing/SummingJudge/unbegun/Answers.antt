use Rattle.vme_summary.proofs.TraceSums.{sums_unbegun}
use Rattle.vme_summary.proofs.summing.SummingJudge.unbegun.Goals as goal

pub returns : goal.returns
returns c = sums_unbegun c.args._task.now
