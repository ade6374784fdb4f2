use Rattle.std.proofs.Common.{None}
use Rattle.vme_reading.specs.Streams.{ReadNothing, streams}
use Rattle.vme_same.proofs.Read.{compared}
use Rattle.vme_same.proofs.judge.compare.Goals as goal

pub returns-clause-reads : goal.returns-clause-reads
returns-clause-reads g c =
    let s = streams (g.A.Read.remaining c.args.first.now) (g.A.Read.remaining c.read_pair.new.first) None None in
    let t = streams (g.B.Read.remaining c.args.second.now) (g.B.Read.remaining c.read_pair.new.second) None None in
    compared c.args.scenario.now (ReadNothing s × ReadNothing t) s t c.in_ok-matching.matching
    c.outcome.result c.in_ok-matching.ensures
    c.outcome.ensures.found
