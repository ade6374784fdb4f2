use Rattle.std.proofs.Common.{◌∙◌, sym}
use Rattle.vme_bus.proofs.PlanSlots.{wire_of_driver}
use Rattle.vme_bus.proofs.buses.Bus.has_driver.Goals as goal

pub returns-clause-wire : goal.returns-clause-wire
returns-clause-wire c = λ has. let b = c.args.self.now in
    wire_of_driver b.plan c.laws.ensures.accepted c.args.driver c.args.wire (sym (c.has_driver.ensures b.version b.plan b.history c.state.ensures) ∙ has)
