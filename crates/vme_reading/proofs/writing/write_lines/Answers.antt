use Rattle.std.proofs.Common.{◌∙◌, ap, arith}
use Rattle.vme_trace.specs.Writing.{edge_line}
use Rattle.vme_trace.proofs.WrittenLines.{on_err, line_more, line_front}
use Rattle.vme_reading.proofs.writing.write_lines.Goals as goal

pub returns-in_err-write_line-clause-front : goal.returns-in_err-write_line-clause-front
returns-in_err-write_line-clause-front g c =
    on_err _ _
    (line_front _ _ _ c.args.edges.now c.loop-code.code-index c.code-item.result _ (omega arith)
    (ap edge_line (c.edge.ensures ∙ c.code-item.is)) c.loop-code.invariant
    c.in_err-write_line.ensures.front)

pub loop-code-preserved : goal.loop-code-preserved
loop-code-preserved g c =
    line_more _ _ _ c.args.edges.now c.loop-code.code-index c.code-item.result _ (omega arith)
    (ap edge_line (c.edge.ensures ∙ c.code-item.is)) c.loop-code.invariant
    c.in_ok-write_line.ensures.ok
