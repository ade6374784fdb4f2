use Rattle.vme_model.proofs.Safety.{legal_is_orderly}
use Rattle.vme_backplane.proofs.laws.legal_list_is_orderly.Goals as goal

pub returns : goal.returns
returns c = legal_is_orderly
