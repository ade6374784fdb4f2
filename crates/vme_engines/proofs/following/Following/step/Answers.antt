use Rattle.std.proofs.Common.{◌+◌, sym}
use Rattle.vme_engines.proofs.FollowedEdges.{noted}
use Rattle.vme_engines.proofs.following.Following.step.Goals as goal

pub returns-in-Ok-clause-marks : goal.returns-in-Ok-clause-marks
returns-in-Ok-clause-marks c =
    noted c.args.self.now.bus _ (c.args.self.now.judged + 1) c.args.edge.now c.args.self.now.marks c.note.new.self _ (sym c.in-Ok.ensures.accepted) c.in-Ok.ensures.state c.shown_at-shown.ensures
    c.note.ensures
