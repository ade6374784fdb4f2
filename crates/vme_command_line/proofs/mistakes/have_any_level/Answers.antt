use Rattle.vme_goals.specs.Goals.{all_misses}
use Rattle.vme_command_line.proofs.mistakes.have_any_level.Goals as goal

pub returns : goal.returns
unfolding all_misses
returns c = c.have_level.ensures
