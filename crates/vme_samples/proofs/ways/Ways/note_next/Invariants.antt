use Rattle.vme_samples.specs.Makers.{AreNoted}
use Rattle.vme_samples.proofs.ways.Ways.note_next.Given as goal

abbrev pub invariant-loop-place : goal.invariant-loop-place
invariant-loop-place l = AreNoted l.plan l.probed l.sample l.self.known.items l.goal l.self.reaching.items l.places l.place l.fn.makers l.makers l.is_some
