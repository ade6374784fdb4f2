use Rattle.std.proofs.Common.{sym}
use Rattle.vme_goals.specs.Events.{all_events}
use Rattle.vme_goals.proofs.Placed.{index_is, number_below}
use Rattle.vme_goals.proofs.events.Event.index.Goals as goal

pub returns-clause-at : goal.returns-clause-at
returns-clause-at c = sym (index_is c.args.self)

pub returns-clause-within : goal.returns-clause-within
unfolding all_events
returns-clause-within c = number_below c.args.self
