use Rattle.std.proofs.Common.{refl}
use Rattle.vme_cycles.proofs.judge.TrackingAtEach.begin.Goals as goal

pub returns-clause-knows : goal.returns-clause-knows
returns-clause-knows c = λ p v is. (c.new.ensures.tracked p v is, refl)
