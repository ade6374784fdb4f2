use Rattle.vme_master.specs.Local.{over}
use Rattle.vme_master.proofs.masters.Master.failing.Goals as goal

pub returns : goal.returns
returns c = λ version noted same own.
    c.told.ensures version noted same own
    (c.five_have_room.ensures.rule version (over c.args.self.now.slot c.args.self.now.row c.args.self.now.handler noted c.args.pins c.args.holds_bus) c.args.edge.wire c.args.edge.fall c.args.edge.value)
