use Rattle.vme_events.proofs.Places.{numbers_below}
use Rattle.vme_events.proofs.laws.numbers_grow.Goals as goal

pub returns : goal.returns
returns c = numbers_below
