use Rattle.vme_reading.specs.Streams.{streams, ReadNothing, WroteNothing}
use Rattle.vme_show.specs.Showing.{ShowsInput}
use Rattle.vme_following.proofs.PrintedBlocks.{lent_known}
use Rattle.vme_show.proofs.shows.show.Goals as goal

pub returns : goal.returns
returns g c =
    let s = streams (g.R.Read.remaining c.args.trace.now) (g.R.Read.remaining c.read.new.trace) (g.W.Write.contents c.args.out.now) (g.W.Write.contents c.read.new.out) in
    rw c.status_of.ensures (lent_known c.args.scenario.now (ReadNothing s × WroteNothing s) (ShowsInput c.args.from c.args.to c.args.color s) c.read.result c.read.ensures)
