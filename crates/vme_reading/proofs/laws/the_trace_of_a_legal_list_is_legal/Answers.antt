use Rattle.vme_reading.proofs.LegalTrace.{legal_trace}
use Rattle.vme_reading.proofs.laws.the_trace_of_a_legal_list_is_legal.Goals as goal

pub returns : goal.returns
returns c = legal_trace
