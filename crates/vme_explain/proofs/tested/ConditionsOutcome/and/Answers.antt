use Rattle.std.proofs.Common.{rules}
use Rattle.vme_rules.proofs.Room.{few_stand}
use Rattle.vme_explain.proofs.tested.ConditionsOutcome.and.Goals as goal

pub returns : goal.returns
returns c = λ g k one other fits. let few = few_stand g in let rest = few_stand k in search rules
