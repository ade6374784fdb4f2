use Rattle.vme_model.specs.Sentences.{all_rules}
use Rattle.vme_model.proofs.sentences.Rule.named.Goals as goal

pub returns : goal.returns
unfolding all_rules
returns c = c.first_named.ensures
