use Rattle.std.proofs.Common.{◌++◌, List, arith, subst, take}
use Rattle.std.proofs.lemmas.List.{take_all}
use Rattle.std.proofs.lemmas.Result.{err_from_is_err_and}
use Rattle.vme_model.specs.declared.signals.Edge.{Edge}
use Rattle.vme_reading.specs.Reporting.{HasWritten}
use Rattle.vme_reading.proofs.ReportedEdges.{stops_among}
use Rattle.vme_reading.proofs.KeptEdges.{next_list}
use Rattle.vme_reading.proofs.reporting.AtEach.see_all.Goals as goal

pub loop-edge-preserved : goal.loop-edge-preserved
loop-edge-preserved g c = record {
  count = (let was = c.loop-edge.invariant.count in let now = c.in_ok-see.ensures.count in omega (arith, was, now));
  knows = λ task p v es first is.
      subst (λ (l : List Edge). HasWritten (λ p v es bytes. g.Self.AtEach.knows task p v es bytes c.see.new.self) p v l first (g.W.Write.contents c.see.new.out))
      (next_list es c.args.edges.now c.loop-edge.edge-index _ c.loop-edge-test.true)
      (c.in_ok-see.ensures.knows task p v (es ++ take c.loop-edge.edge-index c.args.edges.now) first (c.loop-edge.invariant.knows task p v es first is));
}

pub returns-in_err-see-clause-stops : goal.returns-in_err-see-clause-stops
returns-in_err-see-clause-stops g c =
    let e = err_from_is_err_and c.from_residual.result c.from_residual.ensures.1 in
    rw (e.1, e.2) (λ task p v es first is.
    stops_among (g.Self.AtEach.lines task) g.Self.AtEach.fails p v es c.args.edges.now c.loop-edge.edge-index _ c.loop-edge-test.true first _ c.in_err-see.field-0.0
    (c.in_err-see.ensures.stops task p v (es ++ take c.loop-edge.edge-index c.args.edges.now) first (c.loop-edge.invariant.knows task p v es first is)))

pub returns-clause-knows : goal.returns-clause-knows
returns-clause-knows g c = λ task p v es first is.
    subst (λ (l : List Edge). HasWritten (λ p v es bytes. g.Self.AtEach.knows task p v es bytes c.loop-edge.self) p v (es ++ l) first (g.W.Write.contents c.loop-edge.out))
    (take_all c.loop-edge.edge-index c.args.edges.now (omega arith))
    (c.loop-edge.invariant.knows task p v es first is)
