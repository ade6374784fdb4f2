use Rattle.std.proofs.Common.{◌++◌}
use Rattle.vme_engines.specs.Outcomes.{bench}
use Rattle.vme_engines.proofs.ReplayPieces.{replay_goes_on, replay_takes, replays_more}
use Rattle.vme_engines.proofs.replays.ReplayingJudge.take.Goals as goal

pub returns-clause-goes_on : goal.returns-clause-goes_on
returns-clause-goes_on g c = replay_goes_on c.args.self.now.bus c.take_piece.new.bus c.args.self.now.judged c.take_piece.new.judged c.args.edges.now c.args.more _ _ c.take_piece.result c.take_piece.ensures

pub returns-clause-takes : goal.returns-clause-takes
returns-clause-takes g c =
    λ task p v es old h.
    replay_takes p v (es ++ c.args.edges.now) c.args.more old _ (record { bus = c.take_piece.new.bus; judged = c.take_piece.new.judged; text = c.take_piece.new.text }) c.take_piece.result
    (replays_more (bench p v) c.args.self.now.bus c.take_piece.new.bus 0 c.args.self.now.judged c.take_piece.new.judged es c.args.edges.now c.args.more old _ _ h c.take_piece.result c.take_piece.ensures)
