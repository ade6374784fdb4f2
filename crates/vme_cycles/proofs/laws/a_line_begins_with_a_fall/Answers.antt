use Rattle.vme_cycles.proofs.NamedEdges.{line_begins}
use Rattle.vme_cycles.proofs.laws.a_line_begins_with_a_fall.Goals as goal

pub returns : goal.returns
returns c = line_begins
