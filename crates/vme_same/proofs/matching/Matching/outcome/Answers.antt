use Rattle.std.proofs.Common.{true}
use Rattle.vme_model.specs.Numbered.{numbered}
use Rattle.vme_reading.specs.Outcomes.{bench}
use Rattle.vme_same.specs.Kept.{traces_of}
use Rattle.vme_same.proofs.Running.{found_of_edges}
use Rattle.vme_same.proofs.matching.Matching.outcome.Goals as goal

pub returns-in-None-None-clause-found : goal.returns-in-None-None-clause-found
returns-in-None-None-clause-found c = λ p v w es fs stands.
    let runs = stands.0 in
    found_of_edges p v w es fs true true c.args.self.now runs c.found.result c.in-None-None.is-0
    c.in-None-None.is-1
    (c.found.ensures.found (traces_of p v w (numbered (bench p v) es) fs)
    (runs.going c.in-None-None.is-0 c.in-None-None.is-1) stands.1 runs.first_ends runs.second_ends)
