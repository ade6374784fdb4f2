use Rattle.std.proofs.Common.{◌∙◌, sym, ap, List, ◌++◌, ◌∷◌, []}
use Rattle.vme_model.specs.declared.conditions.Condition.{Condition}
use Rattle.vme_model.specs.declared.conditions.Condition.TheVariants.{HasRoom}
use Rattle.vme_bus.proofs.Failing.{unmet_room, unmet_without}
use Rattle.vme_bus.proofs.buses.Bus.failing.Goals as goal

pub returns-then-lacks_room : goal.returns-then-lacks_room
returns-then-lacks_room c =
    c.push.ensures.items
    ∙ ap (λ (failed : List Condition). failed ++ HasRoom ∷ []) c.new-failed.ensures
    ∙ unmet_room c.args.self.now c.args.edge (sym c.lacks_room.ensures ∙ c.if-lacks_room.true)

pub returns : goal.returns
returns c =
    c.failing_but_full.ensures ∙ unmet_without c.args.self.now c.args.edge (sym c.lacks_room.ensures ∙ c.if-lacks_room.false)
