use Rattle.vme_standings.proofs.PhaseSteps.{begins_idle}
use Rattle.vme_standings.proofs.grant_laws.power_up_is_idle.Goals as goal

pub returns : goal.returns
returns c = λ p. begins_idle p
