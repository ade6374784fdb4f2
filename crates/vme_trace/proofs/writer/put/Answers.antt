use Rattle.vme_trace.proofs.WrittenLines.{wrote_more}
use Rattle.vme_trace.proofs.writer.put.Goals as goal

pub writes-preserved : goal.writes-preserved
writes-preserved g c = wrote_more _ _ _ _ c.writes.rest.now c.in-Ok.count c.writes.invariant c.in-Ok.ensures.bytes
