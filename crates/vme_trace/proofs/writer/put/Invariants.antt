use Rattle.std.proofs.Common.{length}
use Rattle.vme_trace.proofs.WrittenLines.{Wrote}
use Rattle.vme_trace.proofs.writer.put.Given as goal

abbrev pub invariant-writes : goal.invariant-writes
invariant-writes g l = Wrote (g.W.Write.contents l.fn.out) (g.W.Write.contents l.out) l.bytes l.rest

abbrev pub decreases-writes : goal.decreases-writes
decreases-writes g l = length l.rest
