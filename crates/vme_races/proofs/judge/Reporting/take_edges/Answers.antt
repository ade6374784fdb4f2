use Rattle.std.proofs.Common.{◌+◌, ◌++◌, arith, refl, subst, take}
use Rattle.std.proofs.lemmas.List.{take_all}
use Rattle.std.proofs.lemmas.Result.{err_from_is_err_and}
use Rattle.vme_races.specs.Kept.{Stands}
use Rattle.vme_races.proofs.TakenIn.{breaks_cut, breaks_unheld, stands_next}
use Rattle.vme_races.proofs.judge.Reporting.take_edges.Goals as goal

pub loop-edge-preserved : goal.loop-edge-preserved
loop-edge-preserved g c = record {
  judged = (let was = c.loop-edge.invariant.judged in omega (arith, was));
  stands = λ p v es first is.
      stands_next p v es c.args.edges.now c.loop-edge.edge-index _ c.loop-edge-test.true first _ _ c.loop-edge.self (record { racing = c.take_in.new.self; judged = c.loop-edge.self.judged + 1 }) _ refl
      (c.in_ok-stop.ensures.line p v (es ++ take c.loop-edge.edge-index c.args.edges.now)) (c.loop-edge.invariant.stands p v es first is)
      c.in_ok-write_taken.ensures.ok;
}

pub returns-in_err-stop-clause-breaks : goal.returns-in_err-stop-clause-breaks
returns-in_err-stop-clause-breaks g c =
    let e = err_from_is_err_and c.from_residual.result c.from_residual.ensures.1 in
    rw (e.1, e.2) (λ p v es first is.
    breaks_unheld p v es c.args.edges.now c.loop-edge.edge-index first _ c.loop-edge.self
    (c.loop-edge.invariant.stands p v es first is) c.in_err-stop.field-0.0 c.in_err-stop.ensures.fault)

pub returns-in_err-write_taken-clause-breaks : goal.returns-in_err-write_taken-clause-breaks
returns-in_err-write_taken-clause-breaks g c =
    let e = err_from_is_err_and c.from_residual-in_err-write_taken.result c.from_residual-in_err-write_taken.ensures.1 in
    rw (e.1, e.2) (λ p v es first is.
    breaks_cut p v es c.args.edges.now c.loop-edge.edge-index _ c.loop-edge-test.true first _ _ c.loop-edge.self (record { racing = c.take_in.new.self; judged = c.loop-edge.self.judged + 1 }) _ refl
    (c.in_ok-stop.ensures.line p v (es ++ take c.loop-edge.edge-index c.args.edges.now)) (c.loop-edge.invariant.stands p v es first is)
    c.in_err-write_taken.field-0.0 c.in_err-write_taken.ensures.fault c.in_err-write_taken.ensures.front)

pub returns-clause-stands : goal.returns-clause-stands
returns-clause-stands g c = λ p v es first is.
    subst (λ l. Stands p v (es ++ l) first (g.W.Write.contents c.loop-edge.out) c.loop-edge.self)
    (take_all c.loop-edge.edge-index c.args.edges.now (omega arith))
    (c.loop-edge.invariant.stands p v es first is)
