use Rattle.vme_same.proofs.Leading.{on_ok}
use Rattle.vme_same.proofs.Running.{runs_first}
use Rattle.vme_same.proofs.matching.Matching.take_of_first.Goals as goal

pub returns-clause-runs : goal.returns-clause-runs
returns-clause-runs c =
    on_ok c.take_first.result (λ moves. λ p v w es fs over runs.
    runs_first p v w es fs over c.args.edge.now c.args.self.now c.take.new.self
    c.take_first.new.self runs (c.take.ensures.side p v es runs.first) c.take.ensures.before
    (c.take.ensures.next p v es runs.first) moves c.take_first.ensures.ended
    c.take_first.ensures.over) c.take_first.ensures.going
