use Rattle.vme_summary.specs.Sums.{sums_line}
use Rattle.vme_summary.specs.Summed.{OfSums}
use Rattle.vme_explain.proofs.WrittenPieces.{WroteTo}
use Rattle.vme_summary.proofs.summaries.write_sums_of.Given as goal

abbrev pub invariant-loop-topic : goal.invariant-loop-topic
invariant-loop-topic g l =
    OfSums l.fn.sums (λ ts. WroteTo (sums_line l.fn.plan ts) l.topics (g.W.Write.contents l.fn.out) (g.W.Write.contents l.out) l.topic-index)
