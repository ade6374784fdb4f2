use Rattle.std.proofs.Common.{[], refl}
use Rattle.vme_races.proofs.judge.ReportingAtEach.begin.Goals as goal

pub returns-clause-knows : goal.returns-clause-knows
returns-clause-knows c = λ p v is. ([], c.new.ensures p v is, refl, refl)
