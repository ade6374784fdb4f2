use Rattle.vme_reach.proofs.Reached.{never_reached}
use Rattle.vme_reach.proofs.laws.hindered_goal_is_never_reached.Goals as goal

pub returns : goal.returns
returns c = never_reached
