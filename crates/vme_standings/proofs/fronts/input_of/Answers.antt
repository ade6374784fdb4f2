use Rattle.std.proofs.Common.{arith}
use Rattle.vme_standings.proofs.Slots.{input_near}
use Rattle.vme_standings.proofs.fronts.input_of.Goals as goal

pub just-requires : goal.just-requires
just-requires c =
    let near = input_near c.args.plan.now c.args.slot (omega arith) in omega (arith, c.input_place.ensures)
