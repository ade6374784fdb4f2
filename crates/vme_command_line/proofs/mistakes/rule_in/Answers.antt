use Rattle.vme_model.specs.Sentences.{all_rules}
use Rattle.vme_command_line.proofs.mistakes.rule_in.Goals as goal

pub returns : goal.returns
unfolding all_rules
returns c = c.rule_before.ensures
