use Rattle.std.proofs.Common.{◌∙◌, sym}
use Rattle.vme_bus.proofs.PlanSlots.{wire_of_low}
use Rattle.vme_bus.proofs.buses.Bus.is_low.Goals as goal

pub returns-clause-had : goal.returns-clause-had
returns-clause-had c = λ low. let b = c.args.self.now in
    wire_of_low b.version b.plan b.history c.args.driver c.args.wire c.laws.ensures.accepted c.laws.ensures.legal (sym (c.is_driven_low.ensures b.version b.plan b.history c.state.ensures) ∙ low)
