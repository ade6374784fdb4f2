use Rattle.std.proofs.Common.{refl}
use Rattle.std.proofs.KnownBytes.{Keeps-refl}
use Rattle.vme_following.proofs.PrintedBlocks.{unasked_first}
use Rattle.vme_following.proofs.explains.ExplainingJudge.begin.Goals as goal

pub returns-clause-stands : goal.returns-clause-stands
returns-clause-stands c = λ p v old is. (refl, Keeps-refl old, unasked_first c.args.task.now p v, c.new-following.ensures.after p v is)
