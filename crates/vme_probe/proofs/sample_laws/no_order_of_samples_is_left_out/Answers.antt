use Rattle.vme_probe.proofs.SamplesRefused.{impossible_refused, possible_named}
use Rattle.vme_probe.proofs.sample_laws.no_order_of_samples_is_left_out.Goals as goal

pub returns-clause-possible : goal.returns-clause-possible
returns-clause-possible c = possible_named

pub returns-clause-impossible : goal.returns-clause-impossible
returns-clause-impossible c = impossible_refused
