use Rattle.vme_engines.proofs.ShownPieces.{shows_more}
use Rattle.vme_engines.proofs.shows.ShowingJudge.take.Goals as goal

pub returns : goal.returns
returns g c =
    λ first es old before.
    shows_more first c.args.self.now c.take_piece.new.self es c.args.edges.now c.args.more old (g.W.Write.contents c.args.out.now) (g.W.Write.contents c.take_piece.new.out) c.take_piece.result before
    c.take_piece.ensures.goes_on c.take_piece.ensures.stretch c.take_piece.ensures.ends
