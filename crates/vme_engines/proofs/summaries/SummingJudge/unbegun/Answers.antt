use Rattle.vme_engines.proofs.Sums.{sums_unbegun}
use Rattle.vme_engines.proofs.summaries.SummingJudge.unbegun.Goals as goal

pub returns : goal.returns
returns c = sums_unbegun c.args._task.now
