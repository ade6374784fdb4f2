use Rattle.vme_engines.specs.Streams.{streams, ReadNothing, WroteNothing}
use Rattle.vme_engines.specs.Stating.{StatesInput}
use Rattle.vme_engines.proofs.ToldTraces.{lent_told}
use Rattle.vme_engines.proofs.states.state.Goals as goal

pub returns : goal.returns
returns g c =
    let s = streams (g.R.Read.remaining c.args.trace.now) (g.R.Read.remaining c.state_trace.new.trace) (g.W.Write.contents c.args.out.now) (g.W.Write.contents c.state_trace.new.out) in
    rw c.answer_of.ensures
    (lent_told c.args.scenario.now (ReadNothing s × WroteNothing s) (StatesInput c.args.after s) c.in_ok-plan.plan c.state_trace.result c.in_ok-plan.ensures.ok.0 c.in_ok-plan.ensures.ok.1 c.state_trace.ensures)
