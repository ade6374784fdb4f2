use Rattle.std.proofs.Common.{◌∙◌, sym}
use Rattle.vme_bus.proofs.Standing.{grant_here, grant_nowhere, grant_range, only_grant, no_grant}
use Rattle.vme_bus.proofs.buses.Bus.grant_at.Goals as goal

pub returns-in-Some-clause-at : goal.returns-in-Some-clause-at
returns-in-Some-clause-at c = let b = c.args.self.now in
    grant_here b.plan b.history c.in-Some.slot c.grant_level.result (sym c.in-Some.is ∙ c.grant_at.ensures b.version b.plan b.history c.state.ensures) c.grant_level.ensures

pub returns-in-Some-clause-range : goal.returns-in-Some-clause-range
returns-in-Some-clause-range c = let b = c.args.self.now in
    grant_range b.plan c.laws.ensures.accepted b.history c.grant_level.result c.in-Some.slot (returns-in-Some-clause-at c)

pub returns-in-Some-clause-only : goal.returns-in-Some-clause-only
returns-in-Some-clause-only c = let b = c.args.self.now in
    only_grant b.plan b.history c.safety.ensures.safe c.grant_level.result c.in-Some.slot (returns-in-Some-clause-at c)

pub returns-in-None-clause-at : goal.returns-in-None-clause-at
returns-in-None-clause-at c = let b = c.args.self.now in
    grant_nowhere b.plan b.history (sym c.in-None.is ∙ c.grant_at.ensures b.version b.plan b.history c.state.ensures)

pub returns-in-None-clause-only : goal.returns-in-None-clause-only
returns-in-None-clause-only c = let b = c.args.self.now in
    no_grant b.plan b.history (returns-in-None-clause-at c)
