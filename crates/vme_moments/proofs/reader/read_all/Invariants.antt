use Rattle.vme_moments.specs.Consumed.{HasRead}
use Rattle.vme_moments.proofs.reader.read_all.Given as goal

abbrev pub invariant-reads : goal.invariant-reads
invariant-reads g l = HasRead (g.R.Read.remaining l.fn.input) (g.R.Read.remaining l.input) l.reader
