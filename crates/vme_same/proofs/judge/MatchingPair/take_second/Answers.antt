use Rattle.vme_same.proofs.Leading.{on_ok}
use Rattle.vme_same.proofs.judge.MatchingPair.take_second.Goals as goal

pub returns-clause-takes : goal.returns-clause-takes
returns-clause-takes c =
    on_ok c.add_to_second.result (λ takes. λ task p v w es ended fs stands. takes p v w es ended fs stands)
    c.add_to_second.ensures.stands
