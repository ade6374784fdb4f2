use Rattle.vme_same.proofs.judge.MatchingPair.end_first.Goals as goal

pub returns-clause-ends : goal.returns-clause-ends
returns-clause-ends c = λ task p v w es fs over stands. c.close_first.ensures.stands p v w es fs over stands
