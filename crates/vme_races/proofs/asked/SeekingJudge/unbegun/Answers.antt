use Rattle.vme_races.proofs.AskedLines.{prints_unbegun}
use Rattle.vme_races.proofs.asked.SeekingJudge.unbegun.Goals as goal

pub returns : goal.returns
returns c = prints_unbegun c.args._task.now.edge
