use Rattle.vme_engines.proofs.FollowedEdges.{comes_to_number, missing_next}
use Rattle.vme_engines.proofs.following.Following.follow_to_number.Goals as goal

pub returns : goal.returns
returns c = ?
