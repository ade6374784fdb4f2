use Rattle.std.proofs.KnownBytes.{Appends-nil}
use Rattle.vme_cycles.proofs.judge.TrackingJudge.begin.Goals as goal

pub returns-clause-stands : goal.returns-clause-stands
returns-clause-stands c = λ p v old is. (Appends-nil old, c.new.ensures.tracked p v is)
