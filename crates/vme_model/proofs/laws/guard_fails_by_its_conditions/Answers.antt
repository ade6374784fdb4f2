use Rattle.vme_model.proofs.Guards.{all_conditions, failed_names, fails_by_conditions}
use Rattle.vme_model.proofs.laws.guard_fails_by_its_conditions.Goals as goal

pub returns-clause-all : goal.returns-clause-all
returns-clause-all c = all_conditions

pub returns-clause-none : goal.returns-clause-none
returns-clause-none c = fails_by_conditions

pub returns-clause-names : goal.returns-clause-names
returns-clause-names c = failed_names
