use Rattle.vme_engines.proofs.FollowedEdges.{reached_front}
use Rattle.vme_engines.proofs.following.Following.follow_through.Goals as goal

pub returns-in-Some : goal.returns-in-Some
returns-in-Some c =
    reached_front c.args.n c.args.self.now c.follow.new.self c.args.edges.now c.in-Some.count c.in-Some.ensures.some.1 c.in-Some.ensures.some.0 c.follow.ensures
