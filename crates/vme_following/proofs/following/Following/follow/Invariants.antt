use Rattle.std.proofs.Common.{◌≡◌, ◌+◌, ◌++◌, take}
use Rattle.vme_following.specs.Followed.{IsAfter, OfAfter}
use Rattle.vme_following.proofs.following.Following.follow.Given as goal

abbrev pub invariant-loop-edge : goal.invariant-loop-edge
invariant-loop-edge l = record {
  judged : l.self.judged ≡ l.fn.self.judged + l.edge-index;
  after : OfAfter l.fn.self (λ p v es. IsAfter p v (es ++ take l.edge-index l.edges) l.self);
}
