use Rattle.vme_seeds.proofs.AllOpen.{one_of_these, some_is_drawn}
use Rattle.vme_seeds.proofs.laws.a_draw_gives_one_of_its_edges.Goals as goal

pub returns-clause-one : goal.returns-clause-one
returns-clause-one c = λ d x y e at. one_of_these d x y e at

pub returns-clause-some : goal.returns-clause-some
returns-clause-some c = λ d e first second weighed has small small_too.
    let drew = some_is_drawn c.every_number_can_be_drawn.ensures.below d weighed e has first second small small_too in (drew.0, drew.1)
