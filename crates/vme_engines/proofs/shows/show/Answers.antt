use Rattle.vme_engines.specs.Streams.{streams, ReadNothing, WroteNothing}
use Rattle.vme_engines.specs.Showing.{ShowsInput}
use Rattle.vme_engines.proofs.ToldTraces.{lent_told}
use Rattle.vme_engines.proofs.shows.show.Goals as goal

pub returns : goal.returns
returns g c =
    let s = streams (g.R.Read.remaining c.args.trace.now) (g.R.Read.remaining c.show_trace.new.trace) (g.W.Write.contents c.args.out.now) (g.W.Write.contents c.show_trace.new.out) in
    rw c.answer_of.ensures
    (lent_told c.args.scenario.now (ReadNothing s × WroteNothing s) (ShowsInput c.args.from c.args.to c.args.color s) c.in_ok-plan.plan c.show_trace.result c.in_ok-plan.ensures.ok.0 c.in_ok-plan.ensures.ok.1 c.show_trace.ensures)
