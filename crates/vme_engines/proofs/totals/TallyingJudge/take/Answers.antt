use Rattle.vme_engines.proofs.TalliedTraces.{tallies_more}
use Rattle.vme_engines.proofs.totals.TallyingJudge.take.Goals as goal

pub returns : goal.returns
returns g c =
    λ first es old before.
    tallies_more first.summing c.args.self.now.summing c.tally_piece.new.summing es c.args.edges.now c.args.more c.tally_piece.result before c.tally_piece.ensures
