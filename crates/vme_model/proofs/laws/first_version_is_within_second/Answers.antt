use Rattle.vme_model.proofs.Versions.{legal_in_second}
use Rattle.vme_model.proofs.laws.first_version_is_within_second.Goals as goal

pub returns : goal.returns
returns c = legal_in_second
