use Rattle.std.proofs.Common.{List, arith, subst}
use Rattle.vme_model.specs.declared.signals.Edge.{Edge}
use Rattle.vme_trace.proofs.WrittenLines.{on_err}
use Rattle.vme_reading.proofs.KeptEdges.{next_list}
use Rattle.vme_cycles.specs.Kept.{IsTracked}
use Rattle.vme_cycles.proofs.NextLines.{one_cut, one_written}
use Rattle.vme_cycles.proofs.tracking.Tracking.take_edges.Goals as goal

pub loop-edge-preserved : goal.loop-edge-preserved
loop-edge-preserved g c = record {
  judged = (let was = c.loop-edge.invariant.judged in let now = c.take_in-line.ensures.judged in omega (arith, was, now));
  tracked = λ p v es is.
      subst (λ (l : List Edge). IsTracked p v l c.take_in-line.new.self) (next_list es c.args.edges.now c.loop-edge.edge-index _ c.loop-edge-test.true)
      (c.take_in-line.ensures.tracked p v _ (c.loop-edge.invariant.tracked p v es is));
  lines = λ p v es is.
      one_written p v es c.args.edges.now c.loop-edge.edge-index _ c.loop-edge-test.true _ (g.W.Write.contents c.loop-edge.out) (g.W.Write.contents c.put.new.out) _
      (c.take_in-line.ensures.line p v _ (c.loop-edge.invariant.tracked p v es is)) (c.loop-edge.invariant.lines p v es is) (rw (c.as_slice.ensures.value) at c.in_ok-put.ensures.ok);
}

pub returns-in_err-put-clause-front : goal.returns-in_err-put-clause-front
returns-in_err-put-clause-front g c =
    on_err c.from_residual.result _ (λ p v es is.
    one_cut p v es c.args.edges.now c.loop-edge.edge-index _ c.loop-edge-test.true _ (g.W.Write.contents c.loop-edge.out) (g.W.Write.contents c.put.new.out) _
    (c.take_in-line.ensures.line p v _ (c.loop-edge.invariant.tracked p v es is)) (c.loop-edge.invariant.lines p v es is) (rw (c.as_slice.ensures.value) at c.in_err-put.ensures.front))
