use Rattle.vme_reading.specs.Streams.{streams, ReadNothing, WroteNothing}
use Rattle.vme_following.specs.Explaining.{ExplainsInput}
use Rattle.vme_following.proofs.PrintedBlocks.{lent_known}
use Rattle.vme_following.proofs.explains.explain.Goals as goal

pub returns : goal.returns
returns g c =
    let s = streams (g.R.Read.remaining c.args.trace.now) (g.R.Read.remaining c.read.new.trace) (g.W.Write.contents c.args.out.now) (g.W.Write.contents c.read.new.out) in
    rw c.status_of.ensures (lent_known c.args.scenario.now (ReadNothing s × WroteNothing s) (ExplainsInput c.args.edge s) c.read.result c.read.ensures)
