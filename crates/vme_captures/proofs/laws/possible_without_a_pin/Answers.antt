use Rattle.vme_captures.proofs.Less.{without_a_pin}
use Rattle.vme_captures.proofs.laws.possible_without_a_pin.Goals as goal

pub returns : goal.returns
returns c = without_a_pin
