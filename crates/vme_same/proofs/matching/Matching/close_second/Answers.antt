use Rattle.std.proofs.Common.{◌∙◌, false, true}
use Rattle.vme_same.proofs.Running.{runs_on}
use Rattle.vme_same.proofs.matching.Matching.close_second.Goals as goal

pub returns-clause-stands : goal.returns-clause-stands
returns-clause-stands c = λ p v w es ended fs stands. (
  runs_on p v w es fs ended false ended true c.args.self.now c.advance.new.self stands.0
      (λ t going. c.advance.ensures.going t (c.end_second.ensures.going t going))
      (c.advance.ensures.ended ∙ c.end_second.ensures.ended ∙ stands.0.first_ends)
      (c.advance.ensures.over ∙ c.end_second.ensures.over),
  c.advance.ensures.idle,
)
