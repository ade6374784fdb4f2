use Rattle.vme_model.proofs.Standing.{accesses_alike}
use Rattle.vme_model.proofs.laws.accesses_are_open_alike.Goals as goal

pub returns : goal.returns
returns c = accesses_alike
