use Rattle.vme_moments.specs.Consumed.{HasRead}
use Rattle.vme_moments.proofs.reader.read_moments.Given as goal

abbrev pub invariant-loop : goal.invariant-loop
invariant-loop g l = HasRead (g.R.Read.remaining l.fn.input) (g.R.Read.remaining l.input) l.reader
