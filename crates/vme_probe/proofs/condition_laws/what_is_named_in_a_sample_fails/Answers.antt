use Rattle.vme_probe.proofs.condition_laws.what_is_named_in_a_sample_fails.Goals as goal
use Rattle.vme_probe.proofs.FailsInSample.{named_in_sample}
use Rattle.vme_probe.proofs.ToldInSample.{printed_in_sample}

pub returns-clause-named_in_sample : goal.returns-clause-named_in_sample
returns-clause-named_in_sample c = named_in_sample

pub returns-clause-printed_in_sample : goal.returns-clause-printed_in_sample
returns-clause-printed_in_sample c = printed_in_sample
