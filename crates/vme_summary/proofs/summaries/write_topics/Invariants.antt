use Rattle.vme_summary.specs.Summary.{line_text}
use Rattle.vme_summary.specs.Tallied.{OfTally}
use Rattle.vme_explain.proofs.WrittenPieces.{WroteTo}
use Rattle.vme_summary.proofs.summaries.write_topics.Given as goal

abbrev pub invariant-loop-topic : goal.invariant-loop-topic
invariant-loop-topic g l =
    OfTally l.fn.tally (λ t. WroteTo (line_text l.fn.plan t) l.topics (g.W.Write.contents l.fn.out) (g.W.Write.contents l.out) l.topic-index)
