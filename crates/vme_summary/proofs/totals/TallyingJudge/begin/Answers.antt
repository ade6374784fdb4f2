use Rattle.vme_summary.proofs.totals.TallyingJudge.begin.Goals as goal

pub returns-clause-stands : goal.returns-clause-stands
returns-clause-stands c = λ p v old is. (c.begin.ensures.stands p v old is).1
