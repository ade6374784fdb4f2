use Rattle.std.proofs.Common.{arith, refl}
use Rattle.vme_trace.proofs.WrittenLines.{on_err, line_more, line_front}
use Rattle.vme_trace.proofs.writer.write_lines.Goals as goal

pub returns-in_err-write_line-clause-front : goal.returns-in_err-write_line-clause-front
returns-in_err-write_line-clause-front g c =
    on_err _ _
    (line_front _ _ _ c.args.edges.now c.loop-edge.edge-index _ _ (omega arith) refl c.loop-edge.invariant c.in_err-write_line.ensures.front)

pub loop-edge-preserved : goal.loop-edge-preserved
loop-edge-preserved g c =
    line_more _ _ _ c.args.edges.now c.loop-edge.edge-index _ _ (omega arith) refl c.loop-edge.invariant c.in_ok-write_line.ensures.ok
