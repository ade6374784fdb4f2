use Rattle.std.proofs.Common.{◌≡◌, ◌+◌, ◌++◌, drop, take}
use Rattle.vme_trace.proofs.WrittenLines.{Wrote}
use Rattle.vme_cycles.specs.Kept.{IsTracked, OfTracked, next_lines}
use Rattle.vme_cycles.proofs.tracking.Tracking.take_edges.Given as goal

abbrev pub invariant-loop-edge : goal.invariant-loop-edge
invariant-loop-edge g l = record {
  judged : l.self.following.judged ≡ l.fn.self.following.judged + l.edge-index;
  tracked : OfTracked l.fn.self (λ p v es. IsTracked p v (es ++ take l.edge-index l.edges) l.self);
  lines : OfTracked l.fn.self (λ p v es.
      Wrote (g.W.Write.contents l.fn.out) (g.W.Write.contents l.out) (next_lines p v es l.edges)
      (next_lines p v (es ++ take l.edge-index l.edges) (drop l.edge-index l.edges)));
}
