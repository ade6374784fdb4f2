use Rattle.std.proofs.Common.{[], refl}
use Rattle.std.proofs.KnownBytes.{Keeps-refl}
use Rattle.vme_races.proofs.AskedLines.{unasked_first}
use Rattle.vme_races.proofs.asked.SeekingJudge.begin.Goals as goal

pub returns-clause-stands : goal.returns-clause-stands
returns-clause-stands c = λ p v old is.
    (refl, Keeps-refl old, unasked_first c.args.task.now.edge p v, ([], c.new.ensures.kept p v is))
