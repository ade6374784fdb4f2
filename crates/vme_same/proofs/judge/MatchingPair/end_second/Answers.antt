use Rattle.vme_same.proofs.judge.MatchingPair.end_second.Goals as goal

pub returns-clause-ends : goal.returns-clause-ends
returns-clause-ends c = λ task p v w es ended fs stands. c.close_second.ensures.stands p v w es ended fs stands
