use Rattle.std.proofs.Common.{◌++◌, take}
use Rattle.vme_reading.proofs.SoughtEdges.{comes_by}
use Rattle.vme_reading.proofs.seeking.Seeking.seek.Goals as goal

pub returns-then-is_met-clause-sought : goal.returns-then-is_met-clause-sought
returns-then-is_met-clause-sought g c = λ p v es passed.
    let i = c.loop-edge.edge-index in
    comes_by g.S.AtEdge.stands p v es c.args.edges.now i _ c.loop-edge-test.true
    c.loop-edge.self.edge c.args.self.now.edge c.loop-edge.invariant.edge c.loop-edge.self.judged
    c.meets.new.self.judged c.loop-edge.self.at c.meets.new.self.at c.in_ok-is_met.is_met
    c.if-is_met.true (c.loop-edge.invariant.passed p v es passed)
    (c.in_ok-is_met.ensures.meets p v (es ++ take i c.args.edges.now))
