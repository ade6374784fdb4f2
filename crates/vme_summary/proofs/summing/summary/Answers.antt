use Rattle.vme_reading.specs.Streams.{streams, ReadNothing, WroteNothing}
use Rattle.vme_summary.specs.Summing.{SumsInput}
use Rattle.vme_reading.proofs.ReadTraces.{lent_status}
use Rattle.vme_summary.proofs.summing.summary.Goals as goal

pub returns : goal.returns
returns g c =
    let s = streams (g.R.Read.remaining c.args.trace.now) (g.R.Read.remaining c.read.new.trace) (g.W.Write.contents c.args.out.now) (g.W.Write.contents c.read.new.out) in
    lent_status c.args.scenario.now (ReadNothing s × WroteNothing s) (SumsInput s) c.read.result c.read.ensures
