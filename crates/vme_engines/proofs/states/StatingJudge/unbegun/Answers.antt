use Rattle.vme_engines.proofs.Printed.{states_unbegun}
use Rattle.vme_engines.proofs.states.StatingJudge.unbegun.Goals as goal

pub returns : goal.returns
returns c = states_unbegun c.args._task.now
