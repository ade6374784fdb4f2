use Rattle.vme_model.proofs.Local.{local, legal_local}
use Rattle.vme_model.proofs.laws.verdict_is_local.Goals as goal

pub returns-clause-well_formed : goal.returns-clause-well_formed
returns-clause-well_formed c = local

pub returns-clause-legal : goal.returns-clause-legal
returns-clause-legal c = legal_local
