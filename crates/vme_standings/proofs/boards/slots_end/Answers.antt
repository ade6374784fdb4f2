use Rattle.std.proofs.Common.{arith}
use Rattle.vme_standings.proofs.Slots.{slots_near}
use Rattle.vme_standings.proofs.boards.slots_end.Goals as goal

pub overflow_add-result : goal.overflow_add-result
overflow_add-result c = let near = slots_near c.args.plan.now c.accepted.ensures in omega (arith, c.slots.ensures)

pub returns-clause-near : goal.returns-clause-near
returns-clause-near c = let near = slots_near c.args.plan.now c.accepted.ensures in omega (arith, c.slots.ensures)
