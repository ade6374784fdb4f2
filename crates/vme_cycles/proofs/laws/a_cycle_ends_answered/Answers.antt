use Rattle.vme_cycles.proofs.OneAnswer.{cycle_ends_answered}
use Rattle.vme_cycles.proofs.laws.a_cycle_ends_answered.Goals as goal

pub returns : goal.returns
returns c = cycle_ends_answered
