use Rattle.std.proofs.Common.{◌++◌, subst}
use Rattle.vme_reading.specs.declared.LineForm.{LineForm}
use Rattle.vme_reading.specs.Outcomes.{bench}
use Rattle.vme_reading.specs.Steps.{TakesPiece}
use Rattle.vme_replay.proofs.ReplayPieces.{replay_goes_on, replay_takes, replays_more}
use Rattle.vme_replay.proofs.replays.ReplayingJudge.take.Goals as goal

pub returns-clause-goes_on : goal.returns-clause-goes_on
returns-clause-goes_on g c = replay_goes_on _ _ _ _ _ _ _ _ _ _ c.take_piece.ensures

pub returns-clause-takes : goal.returns-clause-takes
returns-clause-takes g c =
    λ form p v es old h.
    let took = subst (λ (f : LineForm). TakesPiece f c.args.self.now.bus c.args.self.now.judged c.args.edges.now c.args.more (g.W.Write.contents c.args.out.now)
    (g.W.Write.contents c.take_piece.new.out) c.take_piece.new.bus c.take_piece.new.judged c.take_piece.result) h.0 c.take_piece.ensures in
    replay_takes form p v (es ++ _) _ old _ (record { form = c.args.self.now.form; bus = c.take_piece.new.bus; judged = c.take_piece.new.judged; text = c.take_piece.new.text }) _ h.0
    (replays_more form (bench p v) c.args.self.now.bus c.take_piece.new.bus 0 c.args.self.now.judged c.take_piece.new.judged es c.args.edges.now c.args.more old _ _ h.1 c.take_piece.result took)
