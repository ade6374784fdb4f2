use Rattle.vme_model.proofs.Safety.{legal_is_orderly}
use Rattle.vme_bus.proofs.buses.Bus.safety.Goals as goal

pub returns-clause-orderly : goal.returns-clause-orderly
returns-clause-orderly c = legal_is_orderly _ _ _ c.laws.ensures.accepted c.laws.ensures.legal
