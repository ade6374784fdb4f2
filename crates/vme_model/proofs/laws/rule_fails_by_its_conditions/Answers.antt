use Rattle.vme_model.specs.Rules.{guard}
use Rattle.vme_model.specs.Settling.{settling_guard}
use Rattle.vme_model.proofs.Guards.{fails_by_conditions}
use Rattle.vme_model.proofs.laws.rule_fails_by_its_conditions.Goals as goal

pub returns-clause-rule : goal.returns-clause-rule
returns-clause-rule c = λ version r w fall v. fails_by_conditions (guard version r w fall v).1

pub returns-clause-settling : goal.returns-clause-settling
returns-clause-settling c = λ version p h w fall. fails_by_conditions (settling_guard version p h w fall).1
