use Rattle.std.proofs.Common.{◌∙◌, sym}
use Rattle.vme_backplane.proofs.Failing.{unmet_room, unmet_without}
use Rattle.vme_backplane.proofs.backplanes.Backplane.failing.Goals as goal

pub returns : goal.returns
returns c =
    c.failing_but_full.ensures ∙ unmet_without c.args.self.now c.args.edge (sym c.lacks_room.ensures ∙ c.if-lacks_room.false)
