use Rattle.vme_bus.proofs.PlanSlots.{holder_slot}
use Rattle.vme_bus.proofs.buses.Bus.holder.Goals as goal

pub returns-clause-range : goal.returns-clause-range
returns-clause-range c = let b = c.args.self.now in
    holder_slot b.plan c.laws.ensures.accepted b.history c.holder.result (c.holder.ensures b.version b.plan b.history c.state.ensures)
