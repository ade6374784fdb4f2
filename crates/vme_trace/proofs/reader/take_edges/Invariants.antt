use Rattle.std.proofs.Common.{length}
use Rattle.vme_trace.specs.Taking.{HasLines}
use Rattle.vme_trace.proofs.reader.take_edges.Given as goal

abbrev pub invariant-lines : goal.invariant-lines
invariant-lines g l = HasLines l.piece l.rest l.fn.edges.items l.edges.items

abbrev pub decreases-lines : goal.decreases-lines
decreases-lines g l = length l.rest
