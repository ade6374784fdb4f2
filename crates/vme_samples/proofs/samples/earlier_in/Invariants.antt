use Rattle.std.proofs.Common.{◌≡◌}
use Rattle.vme_samples.specs.Samples.{earlier_in}
use Rattle.vme_samples.proofs.samples.earlier_in.Given as goal

abbrev pub invariant-loop-earlier : goal.invariant-loop-earlier
invariant-loop-earlier l = l.are_in ≡ earlier_in l.sample l.signal l.places l.earlier
