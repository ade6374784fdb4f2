use Rattle.vme_rulebook.specs.Codes.{all_codes}
use Rattle.vme_rulebook.proofs.codes.Code.named.Goals as goal

pub returns : goal.returns
unfolding all_codes
returns c = c.first_named.ensures
