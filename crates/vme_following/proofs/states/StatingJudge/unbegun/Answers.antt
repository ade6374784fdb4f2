use Rattle.vme_following.proofs.PrintedBlocks.{states_unbegun}
use Rattle.vme_following.proofs.states.StatingJudge.unbegun.Goals as goal

pub returns : goal.returns
returns c = states_unbegun c.args._task.now
