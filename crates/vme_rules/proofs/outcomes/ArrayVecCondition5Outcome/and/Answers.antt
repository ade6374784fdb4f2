use Rattle.std.proofs.Common.{rules}
use Rattle.vme_rules.proofs.Room.{few_fail}
use Rattle.vme_rules.proofs.outcomes.ArrayVecCondition5Outcome.and.Goals as goal

pub returns : goal.returns
returns c = λ g k one other fits. let few = few_fail g in let rest = few_fail k in search rules
