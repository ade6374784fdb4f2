use Rattle.std.proofs.lemmas.Result.{on_err_weaker, on_ok_weaker}
use Rattle.vme_trace.proofs.WrittenLines.{on_err}
use Rattle.vme_races.proofs.WrittenOrders.{edge_front, lines_front, met_front, met_whole}
use Rattle.vme_races.proofs.writing.write_edges.Goals as goal

pub returns-in_err-write_lines-clause-front : goal.returns-in_err-write_lines-clause-front
returns-in_err-write_lines-clause-front g c =
    on_err _ _ (lines_front c.args.edges.now c.args.edge.now c.args.met.now
    (g.W.Write.contents c.args.out.now) (g.W.Write.contents c.write_lines.new.out)
    c.in_err-write_lines.ensures.front)

pub returns-in_err-write_line-clause-front : goal.returns-in_err-write_line-clause-front
returns-in_err-write_line-clause-front g c =
    on_err _ _ (edge_front c.args.edges.now c.args.edge.now c.args.met.now
    (g.W.Write.contents c.args.out.now) (g.W.Write.contents c.write_lines.new.out)
    c.in_ok-write_lines.ensures.ok (g.W.Write.contents c.write_line.new.out)
    c.in_err-write_line.ensures.front)

pub returns-clause-ok : goal.returns-clause-ok
returns-clause-ok g c =
    on_ok_weaker c.write_line-2.result (met_whole c.args.edges.now c.args.edge.now c.args.met.now
    (g.W.Write.contents c.args.out.now) (g.W.Write.contents c.write_lines.new.out)
    c.in_ok-write_lines.ensures.ok (g.W.Write.contents c.write_line.new.out)
    c.in_ok-write_line.ensures.ok (g.W.Write.contents c.write_line-2.new.out))
    c.write_line-2.ensures.ok

pub returns-clause-front : goal.returns-clause-front
returns-clause-front g c =
    on_err_weaker c.write_line-2.result (met_front c.args.edges.now c.args.edge.now c.args.met.now
    (g.W.Write.contents c.args.out.now) (g.W.Write.contents c.write_lines.new.out)
    c.in_ok-write_lines.ensures.ok (g.W.Write.contents c.write_line.new.out)
    c.in_ok-write_line.ensures.ok (g.W.Write.contents c.write_line-2.new.out))
    c.write_line-2.ensures.front
