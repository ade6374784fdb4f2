use Rattle.std.proofs.Common.{◌∙◌, sym}
use Rattle.vme_bus.proofs.Room.{after_without_room}
use Rattle.vme_bus.proofs.buses.Bus.step_or_refuse.Goals as goal

pub returns-then-is_full-clause-state : goal.returns-then-is_full-clause-state
returns-then-is_full-clause-state c = after_without_room c.args.self.now c.args.edge (sym c.is_full.ensures ∙ c.if-is_full.true)
