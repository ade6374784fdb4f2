use Rattle.std.proofs.Common.{[]}
use Rattle.vme_races.proofs.asked.RacingAtEdge.begin.Goals as goal

pub returns : goal.returns
returns c = λ p v is. ([], c.new.ensures p v is)
