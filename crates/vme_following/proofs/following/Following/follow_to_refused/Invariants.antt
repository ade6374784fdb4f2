use Rattle.std.proofs.Common.{◌≡◌, ◌+◌, ◌++◌, take, None}
use Rattle.vme_reading.specs.Outcomes.{bench}
use Rattle.vme_reading.specs.Refusals.{first_refusal}
use Rattle.vme_following.specs.Followed.{IsAfter, OfUnasked}
use Rattle.vme_following.proofs.following.Following.follow_to_refused.Given as goal

abbrev pub invariant-loop-edge : goal.invariant-loop-edge
invariant-loop-edge l = record {
  judged : l.self.judged ≡ l.fn.self.judged + l.edge-index;
  after : OfUnasked None l.fn.self (λ p v es. (first_refusal 1 (bench p v) (es ++ take l.edge-index l.edges) ≡ None) × IsAfter p v (es ++ take l.edge-index l.edges) l.self);
}
