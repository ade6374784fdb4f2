use Rattle.std.proofs.KnownBytes.{Keeps-refl}
use Rattle.vme_summary.proofs.summing.SummingJudge.begin.Goals as goal

pub returns-clause-stands : goal.returns-clause-stands
returns-clause-stands c = λ p v old is. (Keeps-refl old, record { follows = c.new-following.ensures.after p v is; tally = c.new-tally.ensures })
