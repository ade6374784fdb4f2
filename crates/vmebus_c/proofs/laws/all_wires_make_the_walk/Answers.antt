use Rattle.std.proofs.Common.{arith}
use Rattle.vme_model.specs.Report.{at_power_up}
use Rattle.vme_seeds.specs.Walks.{at_start}
use Rattle.vmebus_c.proofs.Benches.{walks}
use Rattle.vmebus_c.proofs.laws.all_wires_make_the_walk.Goals as goal

pub returns : goal.returns
returns c = λ version p wires seed histories draws accepted all at n most.
    let w = at_start (at_power_up version p 1048576) seed in
    walks c.all_wires_draw_the_walk.ensures c.draws_follow_the_walk.ensures.on c.nothing_is_left_out.ensures.«open»
    c.a_draw_gives_one_of_its_edges.ensures.one c.a_draw_gives_one_of_its_edges.ensures.some wires all n w histories draws accepted
    (record {
      begins = at.opened;
      follows = record { numbers = at.begun; weighed = at.weighed; counted = at.none_made };
      stepped = at.stepped;
      moved = at.moved;
      kept = at.kept;
      counted = at.counted;
    })
    (omega (arith, most)) (omega arith)
