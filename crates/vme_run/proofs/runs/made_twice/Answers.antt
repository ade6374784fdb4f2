use Rattle.vme_run.proofs.WhatIsLeft.{unopened, unplayed}
use Rattle.vme_run.proofs.runs.made_twice.Goals as goal

pub returns-in-Err-clause-fault : goal.returns-in-Err-clause-fault
returns-in-Err-clause-fault g c = unopened c.args.bounds.turns _ c.in-Err.fault c.in-Err.ensures.fault

pub returns-in-Err-play-clause-fault : goal.returns-in-Err-play-clause-fault
returns-in-Err-play-clause-fault g c = unplayed c.args.version c.args.plan c.args.bounds.edges c.args.bounds.turns c.in-Ok.first c.in-Err-play.fault c.in-Ok.ensures.first c.in-Err-play.ensures
