use Rattle.std.proofs.Common.{◌≡◌, ◌+◌, ◌++◌, take}
use Rattle.vme_summary.specs.TraceSums.{IsSumOf, OfSum}
use Rattle.vme_summary.proofs.summing.Summing.take_edges.Given as goal

abbrev pub invariant-loop-edge : goal.invariant-loop-edge
invariant-loop-edge l = record {
  judged : l.self.following.judged ≡ l.fn.self.following.judged + l.edge-index;
  sum : OfSum l.fn.self (λ p v es. IsSumOf p v (es ++ take l.edge-index l.edges) l.self);
}
