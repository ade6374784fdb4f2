use Rattle.vme_probe.proofs.condition_laws.what_is_named_fails.Goals as goal
use Rattle.vme_probe.proofs.NeverHolds.{named_fails}
use Rattle.vme_probe.proofs.ToldFailing.{printed_fails}

pub returns-clause-named : goal.returns-clause-named
returns-clause-named c = named_fails

pub returns-clause-printed : goal.returns-clause-printed
returns-clause-printed c = printed_fails
