use Rattle.std.proofs.Common.{sym}
use Rattle.vme_trace.proofs.WrittenLines.{on_err}
use Rattle.vme_reading.proofs.WrittenTraces.{edges_front, header_front, last_front, on_ok, text_unflushed, text_whole}
use Rattle.vme_reading.proofs.writing.write_trace.Goals as goal

pub returns-in_err-put-clause-front : goal.returns-in_err-put-clause-front
returns-in_err-put-clause-front g c =
    on_err _ _ (header_front c.args.version c.args.edges.now c.args.last.now _ _
    (rw (sym c.header_line.ensures) c.in_err-put.ensures.front))

pub returns-in_err-write_lines-clause-front : goal.returns-in_err-write_lines-clause-front
returns-in_err-write_lines-clause-front g c =
    on_err _ _ (edges_front c.args.version c.args.edges.now c.args.last.now _ _
    (rw (sym c.header_line.ensures) c.in_ok-put.ensures.ok) _ c.in_err-write_lines.ensures.front)

pub returns-in_err-write_lines-2-clause-front : goal.returns-in_err-write_lines-2-clause-front
returns-in_err-write_lines-2-clause-front g c =
    on_err _ _ (last_front c.args.version c.args.edges.now c.args.last.now _ _
    (rw (sym c.header_line.ensures) c.in_ok-put.ensures.ok) _ c.in_ok-write_lines.ensures.ok _
    c.in_err-write_lines-2.ensures.front)

pub returns-clause-ok : goal.returns-clause-ok
returns-clause-ok g c =
    on_ok _ _ (text_whole c.args.version c.args.edges.now c.args.last.now _ _
    (rw (sym c.header_line.ensures) c.in_ok-put.ensures.ok) _ c.in_ok-write_lines.ensures.ok _
    c.in_ok-write_lines-2.ensures.ok _ c.flush.ensures.kept)

pub returns-clause-front : goal.returns-clause-front
returns-clause-front g c =
    on_err _ _ (text_unflushed c.args.version c.args.edges.now c.args.last.now _ _
    (rw (sym c.header_line.ensures) c.in_ok-put.ensures.ok) _ c.in_ok-write_lines.ensures.ok _
    c.in_ok-write_lines-2.ensures.ok _ c.flush.ensures.kept)
