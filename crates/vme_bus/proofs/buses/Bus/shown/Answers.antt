use Rattle.std.proofs.Common.{◌∙◌, subst, sym}
use Rattle.vme_bus.proofs.PlanSlots.{IsInRange, shown_in_range}
use Rattle.vme_bus.proofs.buses.Bus.shown.Goals as goal

pub returns-clause-cycle : goal.returns-clause-cycle
returns-clause-cycle c = c.shown.ensures ∙ c.state.ensures.shown

pub returns-clause-range : goal.returns-clause-range
returns-clause-range c = let b = c.args.self.now in
    subst IsInRange (sym (returns-clause-cycle c)) (shown_in_range b.version b.plan b.history c.laws.ensures.legal)
