use Rattle.vme_cycles.proofs.OneAnswer.{cycle_is_answered_once}
use Rattle.vme_cycles.proofs.laws.a_cycle_is_answered_once.Goals as goal

pub returns : goal.returns
returns c = cycle_is_answered_once
