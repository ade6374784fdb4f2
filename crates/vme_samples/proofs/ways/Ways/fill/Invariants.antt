use Rattle.vme_samples.proofs.Kept.{IsFilled}
use Rattle.vme_samples.proofs.ways.Ways.fill.Given as goal

abbrev pub invariant-loop-number : goal.invariant-loop-number
invariant-loop-number l = IsFilled l.plan l.probed l.start l.sample l.self.known.items l.number
