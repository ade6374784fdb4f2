use Rattle.vme_probe.proofs.Fitting.{at_power_up, on_a_running_bus}
use Rattle.vme_probe.proofs.laws.a_beginning_fits_together.Goals as goal

pub returns-clause-power_up : goal.returns-clause-power_up
returns-clause-power_up c = at_power_up

pub returns-clause-running : goal.returns-clause-running
returns-clause-running c = on_a_running_bus
