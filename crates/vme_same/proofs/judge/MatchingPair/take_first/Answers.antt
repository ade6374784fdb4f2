use Rattle.vme_same.proofs.Leading.{on_ok}
use Rattle.vme_same.proofs.judge.MatchingPair.take_first.Goals as goal

pub returns-clause-takes : goal.returns-clause-takes
returns-clause-takes c =
    on_ok c.add_to_first.result (λ takes. λ task p v w es fs over stands. takes p v w es fs over stands)
    c.add_to_first.ensures.stands
