use Rattle.std.proofs.Common.{◌+◌, None}
use Rattle.vme_reading.specs.Streams.{streams}
use Rattle.vme_reading.specs.Sides.{AreUnderWay, turns_left}
use Rattle.vme_reading.proofs.pairs.read_both.Given as goal

abbrev pub invariant-reads : goal.invariant-reads
invariant-reads g l =
    AreUnderWay (g.J.Pair.stands l.fn.task l.fn.plan) g.J.Pair.first_count g.J.Pair.second_count
    (streams (g.A.Read.remaining l.fn.first) (g.A.Read.remaining l.first) None None)
    (streams (g.B.Read.remaining l.fn.second) (g.B.Read.remaining l.second) None None)
    l.one l.other l.judge

abbrev pub decreases-reads : goal.decreases-reads
decreases-reads g l = turns_left l.one.more l.one.reads + turns_left l.other.more l.other.reads
