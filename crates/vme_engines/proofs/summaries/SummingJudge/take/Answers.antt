use Rattle.vme_engines.proofs.Sums.{sums_more}
use Rattle.vme_engines.proofs.summaries.SummingJudge.take.Goals as goal

pub returns : goal.returns
returns g c =
    λ first es old before.
    sums_more first c.args.self.now c.sum_piece.new.summing es c.args.edges.now c.args.more old _ _ c.sum_piece.result before c.sum_piece.ensures
