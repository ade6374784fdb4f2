use Rattle.vme_interrupter.specs.Local.{over}
use Rattle.vme_interrupter.proofs.interrupters.Interrupter.failing.Goals as goal

pub returns : goal.returns
returns c = λ version noted same own.
    c.told.ensures version noted same own
    (c.five_have_room.ensures.rule version (over c.args.self.now.slot c.args.self.now.row noted c.args.pins) c.args.edge.wire c.args.edge.fall c.args.edge.value)
