use Rattle.std.proofs.Common.{◌+◌, ap}
use Rattle.vme_engines.proofs.FollowedEdges.{followed_more}
use Rattle.vme_engines.proofs.following.Following.follow.Goals as goal

pub loop-edge-preserved : goal.loop-edge-preserved
loop-edge-preserved c =
    followed_more c.args.self.now c.loop-edge.self _ c.args.edges.now c.loop-edge.edge-index _ c.loop-edge-test.true c.loop-edge.invariant c.step.ensures.bus (ap (λ n. n + 1) c.step.ensures.judged) c.step.ensures.marks
