use Rattle.std.proofs.Common.{refl}
use Rattle.vme_check.proofs.checks.CheckingJudge.begin.Goals as goal

pub returns-clause-stands : goal.returns-clause-stands
returns-clause-stands c = λ p v old is. record { unrefused = refl; bus = is; judged = refl }
