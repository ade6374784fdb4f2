use Rattle.vme_seeds.specs.Choices.{weight, draw_on}
use Rattle.vme_seeds.proofs.AllOpen.{can_be_made, each_is_open, some_is_chosen}
use Rattle.vme_seeds.proofs.laws.nothing_is_left_out.Goals as goal

pub returns-clause-made : goal.returns-clause-made
returns-clause-made c = λ g b e accepted ok. can_be_made g b e accepted ok

pub returns-clause-open : goal.returns-clause-open
returns-clause-open c = λ g. each_is_open (weight g)

pub returns-clause-some : goal.returns-clause-some
returns-clause-some c = λ g b x below. some_is_chosen (draw_on (weight g) b) x below
