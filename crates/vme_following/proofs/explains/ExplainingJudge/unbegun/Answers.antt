use Rattle.vme_following.proofs.PrintedBlocks.{explains_unbegun}
use Rattle.vme_following.proofs.explains.ExplainingJudge.unbegun.Goals as goal

pub returns : goal.returns
returns c = explains_unbegun c.args._task.now
