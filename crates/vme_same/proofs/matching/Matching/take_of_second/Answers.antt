use Rattle.vme_same.proofs.Leading.{on_ok}
use Rattle.vme_same.proofs.Running.{runs_second}
use Rattle.vme_same.proofs.matching.Matching.take_of_second.Goals as goal

pub returns-clause-runs : goal.returns-clause-runs
returns-clause-runs c =
    on_ok c.take_second.result (λ moves. λ p v w es ended fs runs.
    runs_second p v w es fs ended c.args.edge.now c.args.self.now c.take.new.self
    c.take_second.new.self runs (c.take.ensures.side p w fs runs.second) c.take.ensures.before
    c.requires.count moves c.take_second.ensures.ended c.take_second.ensures.over)
    c.take_second.ensures.going
