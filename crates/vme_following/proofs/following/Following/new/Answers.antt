use Rattle.std.proofs.Common.{refl}
use Rattle.vme_following.proofs.following.Following.new.Goals as goal

pub returns-clause-after : goal.returns-clause-after
returns-clause-after c = λ p v is. record { bus = is; judged = refl; marks = c.new.ensures p }
