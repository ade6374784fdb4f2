use Rattle.vme_model.specs.Numbered.{numbered}
use Rattle.vme_reading.specs.Outcomes.{bench}
use Rattle.vme_races.proofs.TakenIn.{kind_there}
use Rattle.vme_races.proofs.racing.Racing.keep.Goals as goal

pub returns-clause-last : goal.returns-clause-last
returns-clause-last c = λ p v es is last.
    c.in_ok-push.ensures.last v p (numbered (bench p v) es) last
    (kind_there p v es c.args.self.now.bus c.state.result.now c.to_kind.result is c.state.ensures
    c.to_kind.ensures)
