use Rattle.std.proofs.Common.{◌+◌, ap}
use Rattle.std.specs.Prelude.{is_ok}
use Rattle.vme_engines.proofs.FollowedEdges.{noted}
use Rattle.vme_engines.proofs.following.Following.note.Goals as goal

pub returns-clause-marks : goal.returns-clause-marks
returns-clause-marks c =
    noted c.args.self.now.bus (c.args.self.now.judged + 1) c.args.edge c.args.self.now.marks c.note.new.self _ (ap is_ok c.requires.accepted) c.shown_at-shown.ensures
    c.note.ensures
