use Rattle.vme_seeds.proofs.Shares.{a_word}
use Rattle.vme_seeds.proofs.laws.every_number_can_be_drawn.Goals as goal

pub returns-clause-drawn : goal.returns-clause-drawn
returns-clause-drawn c = a_word
