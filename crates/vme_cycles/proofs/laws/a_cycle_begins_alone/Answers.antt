use Rattle.vme_cycles.proofs.OneCycle.{cycle_begins_alone}
use Rattle.vme_cycles.proofs.laws.a_cycle_begins_alone.Goals as goal

pub returns : goal.returns
returns c = cycle_begins_alone
