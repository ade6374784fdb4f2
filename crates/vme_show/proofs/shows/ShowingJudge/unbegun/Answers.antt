use Rattle.vme_show.proofs.ShownTraces.{shows_unbegun}
use Rattle.vme_show.proofs.shows.ShowingJudge.unbegun.Goals as goal

pub returns : goal.returns
returns c = shows_unbegun c.args._task.now c.requires.can
