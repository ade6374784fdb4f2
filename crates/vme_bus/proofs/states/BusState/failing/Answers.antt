use Rattle.std.proofs.Common.{◌∙◌}
use Rattle.vme_model.proofs.Failing.{fails_of_tested_but_full}
use Rattle.vme_rules.proofs.TestedRoom.{five_tested}
use Rattle.vme_bus.proofs.states.BusState.failing.Goals as goal

pub returns : goal.returns
returns c = λ version p h is.
    c.outcome.ensures version p h is (five_tested version p h c.args.edge) ∙ fails_of_tested_but_full version p h c.args.edge
