use Rattle.vme_model.proofs.NamedRules.{edges_are_named, settling_is_named}
use Rattle.vme_model.proofs.laws.sources_have_the_rules_of_the_guards.Goals as goal

pub returns-clause-edge : goal.returns-clause-edge
returns-clause-edge c = edges_are_named

pub returns-clause-settling : goal.returns-clause-settling
returns-clause-settling c = settling_is_named
