use Rattle.vme_model.proofs.Failing.{none_met, none_met_but_full, first_unmet, fails_of_tested, fails_of_tested_but_full}
use Rattle.vme_model.proofs.laws.edge_fails_where_it_is_refused.Goals as goal

pub returns-clause-none : goal.returns-clause-none
returns-clause-none c = none_met

pub returns-clause-none_but_full : goal.returns-clause-none_but_full
returns-clause-none_but_full c = none_met_but_full

pub returns-clause-first : goal.returns-clause-first
returns-clause-first c = first_unmet

pub returns-clause-tested : goal.returns-clause-tested
returns-clause-tested c = fails_of_tested

pub returns-clause-tested_but_full : goal.returns-clause-tested_but_full
returns-clause-tested_but_full c = fails_of_tested_but_full
