use Rattle.vme_captures.proofs.Less.{without_a_slot}
use Rattle.vme_captures.proofs.laws.possible_without_a_slot.Goals as goal

pub returns : goal.returns
returns c = without_a_slot
