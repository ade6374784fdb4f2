use Rattle.vme_trace.proofs.OneSpelling.{one_edge}
use Rattle.vme_trace.proofs.laws.line_spells_one_edge.Goals as goal

pub returns : goal.returns
returns c = one_edge
