use Rattle.std.proofs.Common.{refl}
use Rattle.std.proofs.KnownBytes.{Keeps-refl}
use Rattle.vme_following.proofs.PrintedBlocks.{not_before_first}
use Rattle.vme_following.proofs.states.StatingJudge.begin.Goals as goal

pub returns-clause-stands : goal.returns-clause-stands
returns-clause-stands c = λ p v old is. (refl, Keeps-refl old, not_before_first c.args.task.now, c.new-following.ensures.after p v is)
