use Rattle.std.proofs.Common.{◌∙◌}
use Rattle.vme_bus.proofs.PlanSlots.{addressing_slot}
use Rattle.vme_bus.proofs.buses.Bus.addressing.Goals as goal

pub returns-clause-slot : goal.returns-clause-slot
returns-clause-slot c = c.slot_in.ensures ∙ c.state.ensures.addressing

pub returns-clause-range : goal.returns-clause-range
returns-clause-range c = let b = c.args.self.now in
    addressing_slot b.plan c.laws.ensures.accepted b.history c.slot_in.result (returns-clause-slot c)
