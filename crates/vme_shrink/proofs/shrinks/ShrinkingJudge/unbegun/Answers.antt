use Rattle.vme_shrink.proofs.WrittenStories.{writes_unbegun}
use Rattle.vme_shrink.proofs.shrinks.ShrinkingJudge.unbegun.Goals as goal

pub returns : goal.returns
returns g c = writes_unbegun c.args._task.now.edge
