use Rattle.std.proofs.Common.{take}
use Rattle.vme_engines.specs.Followed.{Follows}
use Rattle.vme_engines.proofs.following.Following.follow.Given as goal

abbrev pub invariant-loop-edge : goal.invariant-loop-edge
invariant-loop-edge l = Follows l.fn.self (take l.edge-index l.edges) l.self
