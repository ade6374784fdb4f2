use Rattle.vme_model.proofs.SourcedGuards.{settled, sourced}
use Rattle.vme_model.proofs.laws.every_condition_has_a_source.Goals as goal

pub returns-clause-edge : goal.returns-clause-edge
returns-clause-edge c = sourced

pub returns-clause-settling : goal.returns-clause-settling
returns-clause-settling c = settled
