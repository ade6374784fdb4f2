use Rattle.vme_samples.specs.Ways.{Gathered}
use Rattle.vme_samples.proofs.ways.Ways.behind.Given as goal

abbrev pub invariant-loop-last : goal.invariant-loop-last
invariant-loop-last l = Gathered l.plan l.probed l.sample l.self.known.items l.places l.last l.known
