use Rattle.vme_probe.proofs.Answered.{lent}
use Rattle.vme_probe.proofs.probes.probe.Goals as goal

pub returns : goal.returns
returns g c = lent c.args.scenario.now _ c.args.skew _ _ c.in_ok-plan.ensures.ok.0 c.in_ok-plan.ensures.ok.1 c.probe_on.result c.probe_on.ensures
