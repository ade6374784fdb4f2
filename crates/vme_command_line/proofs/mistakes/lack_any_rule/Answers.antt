use Rattle.vme_goals.specs.Goals.{all_misses}
use Rattle.vme_command_line.proofs.mistakes.lack_any_rule.Goals as goal

pub returns : goal.returns
unfolding all_misses
returns c = c.lack_rule.ensures
