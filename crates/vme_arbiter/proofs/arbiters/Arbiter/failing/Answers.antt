use Rattle.vme_arbiter.specs.Local.{over, over_pick}
use Rattle.vme_model.specs.History.{last_level}
use Rattle.vme_arbiter.proofs.arbiters.Arbiter.failing.Goals as goal

pub returns-clause-rows : goal.returns-clause-rows
returns-clause-rows g c = λ kind version noted same own picks.
    c.told.ensures.rows kind version noted same own picks
    (c.five_have_room.ensures.rule version (over kind noted c.args.pins) c.args.edge.wire c.args.edge.fall c.args.edge.value)

pub returns-clause-grants : goal.returns-clause-grants
returns-clause-grants g c = λ kind version noted same own grant.
    c.told.ensures.grants kind version noted same own grant
    (c.five_have_room.ensures.rule version (over_pick (g.P.Policy.picked c.args.self.now.0 c.args.pins.requests (last_level noted)) noted c.args.pins) c.args.edge.wire c.args.edge.fall c.args.edge.value)
