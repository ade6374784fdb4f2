use Rattle.std.proofs.Common.{◌≡◌, ◌+◌, take, None}
use Rattle.vme_engines.specs.Checking.{first_refusal}
use Rattle.vme_engines.specs.Followed.{Follows}
use Rattle.vme_engines.proofs.following.Following.follow_to_refused.Given as goal

abbrev pub invariant-loop-edge : goal.invariant-loop-edge
invariant-loop-edge l = record {
  follows : Follows l.fn.self (take l.edge-index l.edges) l.self;
  none : first_refusal (l.fn.self.judged + 1) l.fn.self.bus (take l.edge-index l.edges) ≡ None;
}
