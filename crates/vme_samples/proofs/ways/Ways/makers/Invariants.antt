use Rattle.std.proofs.Common.{◌≡◌}
use Rattle.vme_samples.specs.Makers.{by_at}
use Rattle.vme_samples.proofs.Towards.{MakersDone}
use Rattle.vme_samples.proofs.ways.Ways.makers.Given as goal

abbrev pub invariant-loop-back : goal.invariant-loop-back
invariant-loop-back l = record {
  known : l.self.known ≡ l.fn.self.known;
  done : MakersDone l.plan l.probed l.sample l.fn.self.known.items l.goal l.self.reaching.items l.back (by_at l.makers);
}
