use Rattle.vme_model.proofs.Wires.{one_part, controllers_has, boards_has}
use Rattle.vme_model.proofs.laws.wires_are_of_one_part.Goals as goal

pub returns-clause-apart : goal.returns-clause-apart
returns-clause-apart c = one_part

pub returns-clause-controllers : goal.returns-clause-controllers
returns-clause-controllers c = controllers_has

pub returns-clause-boards : goal.returns-clause-boards
returns-clause-boards c = boards_has
