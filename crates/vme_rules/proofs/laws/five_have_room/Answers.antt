use Rattle.vme_rules.proofs.TestedRoom.{five_tested}
use Rattle.vme_rules.proofs.laws.five_have_room.Goals as goal

pub returns-clause-tested : goal.returns-clause-tested
returns-clause-tested c = five_tested
