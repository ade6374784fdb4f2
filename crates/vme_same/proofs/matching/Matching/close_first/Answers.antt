use Rattle.std.proofs.Common.{◌∙◌, false, true}
use Rattle.vme_same.proofs.Running.{runs_on}
use Rattle.vme_same.proofs.matching.Matching.close_first.Goals as goal

pub returns-clause-stands : goal.returns-clause-stands
returns-clause-stands c = λ p v w es fs over stands. (
  runs_on p v w es fs false over true over c.args.self.now c.advance.new.self stands.0
      (λ t going. c.advance.ensures.going t (c.end_first.ensures.going t going))
      (c.advance.ensures.ended ∙ c.end_first.ensures.ended)
      (c.advance.ensures.over ∙ c.end_first.ensures.over ∙ stands.0.second_ends),
  c.advance.ensures.idle,
)
