use Rattle.vme_run.proofs.WhatIsLeft.{fits, not_played_from, written}
use Rattle.vme_run.proofs.runs.run.Goals as goal

pub returns-in-Ok-made_twice : goal.returns-in-Ok-made_twice
returns-in-Ok-made_twice g c =
    let most = fits c.args.edges _ _ c.most_edges-most.ensures in
    written c.args.scenario.now c.args.version c.most_edges-most.result c.args.edges c.args.turns most c.in_ok-plan.plan
    (g.W.Write.contents c.args.out.now) c.in_ok-plan.ensures.ok (g.W.Write.contents c.write_made.new.out)
    c.in-Ok-made_twice.made c.write_made.result c.in-Ok-made_twice.ensures.made c.write_made.ensures

pub returns : goal.returns
returns g c =
    let most = fits c.args.edges _ _ c.most_edges-most.ensures in
    not_played_from c.args.scenario.now c.args.version c.most_edges-most.result c.args.edges c.args.turns most c.in_ok-plan.plan
    (g.W.Write.contents c.args.out.now) c.in_ok-plan.ensures.ok c.in-Err.fault c.in-Err.ensures.fault
