use Rattle.vme_engines.proofs.Sums.{tallies_unbegun}
use Rattle.vme_engines.proofs.totals.TallyingJudge.unbegun.Goals as goal

pub returns : goal.returns
returns c = tallies_unbegun c.args._task.now
