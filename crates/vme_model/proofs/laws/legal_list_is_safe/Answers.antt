use Rattle.vme_model.proofs.Safety.{legal_is_safe}
use Rattle.vme_model.proofs.laws.legal_list_is_safe.Goals as goal

pub returns : goal.returns
returns c = legal_is_safe
