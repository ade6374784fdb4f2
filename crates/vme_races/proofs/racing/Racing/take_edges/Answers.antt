use Rattle.std.proofs.Common.{◌++◌, arith, subst, take}
use Rattle.std.proofs.lemmas.List.{take_all}
use Rattle.std.proofs.lemmas.Result.{err_from_is_err_and}
use Rattle.vme_races.specs.Kept.{Stands}
use Rattle.vme_races.proofs.TakenIn.{breaks_cut, breaks_unheld, stands_next}
use Rattle.vme_races.proofs.racing.Racing.take_edges.Goals as goal

pub loop-edge-preserved : goal.loop-edge-preserved
loop-edge-preserved g c = record {
  judged = (let was = c.loop-edge.invariant.judged in let now = c.in_ok-line.ensures.judged in omega (arith, was, now));
  stands = λ p v es first is.
      stands_next p v es c.args.edges.now c.loop-edge.edge-index _ c.loop-edge-test.true first _ _ c.loop-edge.self c.take_in.new.self c.in_ok-line.line.items
      (c.in_ok-line.ensures.line p v (es ++ take c.loop-edge.edge-index c.args.edges.now)) (c.loop-edge.invariant.stands p v es first is)
      (rw (c.as_slice.ensures.value) at c.in_ok-put.ensures.ok);
}

pub returns-in_err-line-clause-breaks : goal.returns-in_err-line-clause-breaks
returns-in_err-line-clause-breaks g c =
    let e = err_from_is_err_and c.from_residual.result c.from_residual.ensures.1 in
    rw (e.1, e.2) (λ p v es first is.
    breaks_unheld p v es c.args.edges.now c.loop-edge.edge-index first _ c.loop-edge.self
    (c.loop-edge.invariant.stands p v es first is) c.in_err-line.field-0.0 c.in_err-line.ensures.fault)

pub returns-in_err-put-clause-breaks : goal.returns-in_err-put-clause-breaks
returns-in_err-put-clause-breaks g c =
    let e = err_from_is_err_and c.from_residual-in_err-put.result c.from_residual-in_err-put.ensures.1 in
    rw (e.1, e.2) (λ p v es first is.
    breaks_cut p v es c.args.edges.now c.loop-edge.edge-index _ c.loop-edge-test.true first _ _ c.loop-edge.self c.take_in.new.self c.in_ok-line.line.items
    (c.in_ok-line.ensures.line p v (es ++ take c.loop-edge.edge-index c.args.edges.now)) (c.loop-edge.invariant.stands p v es first is)
    c.in_err-put.field-0.0 c.in_err-put.ensures.fault (rw (c.as_slice.ensures.value) at c.in_err-put.ensures.front))

pub returns-clause-stands : goal.returns-clause-stands
returns-clause-stands g c = λ p v es first is.
    subst (λ l. Stands p v (es ++ l) first (g.W.Write.contents c.loop-edge.out) c.loop-edge.self)
    (take_all c.loop-edge.edge-index c.args.edges.now (omega arith))
    (c.loop-edge.invariant.stands p v es first is)
