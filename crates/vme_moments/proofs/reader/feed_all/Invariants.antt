use Rattle.vme_moments.specs.Consumed.{HasReadMany}
use Rattle.vme_moments.proofs.reader.feed_all.Given as goal

abbrev pub invariant-reads : goal.invariant-reads
invariant-reads g l =
    HasReadMany l.done (g.R.Read.remaining l.fn.input) (g.R.Read.remaining l.input) l.reader
