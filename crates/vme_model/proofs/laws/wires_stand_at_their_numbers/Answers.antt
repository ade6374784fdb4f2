use Rattle.vme_model.proofs.Wires.{at_its_number}
use Rattle.vme_model.proofs.laws.wires_stand_at_their_numbers.Goals as goal

pub returns : goal.returns
returns c = at_its_number
