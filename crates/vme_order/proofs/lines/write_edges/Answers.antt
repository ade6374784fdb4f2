use Rattle.std.proofs.Common.{◌∙◌, ◌+◌, arith}
use Rattle.vme_trace.proofs.WrittenLines.{on_err}
use Rattle.vme_order.specs.Lines.{seen_lines}
use Rattle.vme_order.specs.Ordering.{seen_at}
use Rattle.vme_order.proofs.SeenLines.{line_front, line_more, state_next}
use Rattle.vme_order.proofs.lines.write_edges.Goals as goal

pub returns-in_err-write_edge-clause-front : goal.returns-in_err-write_edge-clause-front
returns-in_err-write_edge-clause-front g c =
    on_err c.from_residual.result _
    (line_front (g.W.Write.contents c.args.out.now) (g.W.Write.contents c.loop-place.out) (g.W.Write.contents c.write_edge.new.out)
    (seen_lines c.args.form c.args.bus.now (c.args.written + 1) (seen_at c.args.seen.now c.args.places.now)) c.args.form c.loop-place.bus (c.loop-place.n + 1) c.args.seen.now c.args.places.now
    c.loop-place.place-index _ _ (omega arith)
    (c.requires.within c.loop-place.place-index _ (omega arith)) c.loop-place.invariant.lines c.in_err-write_edge.ensures.front)

pub loop-place-preserved : goal.loop-place-preserved
loop-place-preserved g c = record {
  count = omega arith;
  state =
      state_next c.args.form c.loop-place.bus c.write_edge.new.bus c.args.seen.now c.args.places.now c.loop-place.place-index _ _ (omega arith)
      (c.requires.within c.loop-place.place-index _ (omega arith)) c.write_edge.ensures.state ∙ c.loop-place.invariant.state;
  lines =
      line_more (g.W.Write.contents c.args.out.now) (g.W.Write.contents c.loop-place.out) (g.W.Write.contents c.write_edge.new.out)
      (seen_lines c.args.form c.args.bus.now (c.args.written + 1) (seen_at c.args.seen.now c.args.places.now)) c.args.form c.loop-place.bus (c.loop-place.n + 1) c.args.seen.now c.args.places.now
      c.loop-place.place-index _ _ (omega arith)
      (c.requires.within c.loop-place.place-index _ (omega arith)) c.loop-place.invariant.lines c.write_edge.new.bus c.write_edge.ensures.state c.in_ok-write_edge.ensures.ok;
}
