use Rattle.vme_probe.proofs.GrantsKept.{power_up, running}
use Rattle.vme_probe.proofs.hindered_laws.grants_begin_fitting_together.Goals as goal

pub returns-clause-power_up : goal.returns-clause-power_up
returns-clause-power_up c = power_up

pub returns-clause-running : goal.returns-clause-running
returns-clause-running c = running
