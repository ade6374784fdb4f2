use Rattle.vme_engines.specs.Streams.{streams, ReadNothing, WroteNothing}
use Rattle.vme_engines.specs.Explaining.{ExplainsInput}
use Rattle.vme_engines.proofs.ToldTraces.{lent_told}
use Rattle.vme_engines.proofs.explains.explain.Goals as goal

pub returns : goal.returns
returns g c =
    let s = streams (g.R.Read.remaining c.args.trace.now) (g.R.Read.remaining c.explain_trace.new.trace) (g.W.Write.contents c.args.out.now) (g.W.Write.contents c.explain_trace.new.out) in
    rw c.answer_of.ensures
    (lent_told c.args.scenario.now (ReadNothing s × WroteNothing s) (ExplainsInput c.args.edge s) c.in_ok-plan.plan c.explain_trace.result c.in_ok-plan.ensures.ok.0 c.in_ok-plan.ensures.ok.1 c.explain_trace.ensures)
