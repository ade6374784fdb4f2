use Rattle.std.proofs.Common.{◌∙◌, sym, subst}
use Rattle.vme_bus.proofs.Failing.{tested_room, tested_without}
use Rattle.vme_bus.proofs.buses.Bus.outcome.Goals as goal

pub returns-then-lacks_room : goal.returns-then-lacks_room
returns-then-lacks_room g c =
    subst (λ k. g.A.Outcome.reports c.and.result k)
    (tested_room c.args.self.now c.args.edge (sym c.lacks_room.ensures ∙ c.if-lacks_room.true))
    (c.and.ensures _ _ c.outcome_but_full-tested.ensures c.asks.ensures)

pub returns-else-lacks_room : goal.returns-else-lacks_room
returns-else-lacks_room g c =
    subst (λ k. g.A.Outcome.reports c.outcome_but_full-tested.result k)
    (tested_without c.args.self.now c.args.edge (sym c.lacks_room.ensures ∙ c.if-lacks_room.false))
    c.outcome_but_full-tested.ensures
