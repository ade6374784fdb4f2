use Rattle.vme_samples.proofs.Furthest.{IsBest}
use Rattle.vme_samples.proofs.ways.Ways.furthest.Given as goal

abbrev pub invariant-loop-number : goal.invariant-loop-number
invariant-loop-number l = IsBest l.self.known.items l.number l.furthest
