use Rattle.std.proofs.Common.{◌<◌, subst, sym, arith}
use Rattle.vme_bus.proofs.Asked.{near_place}
use Rattle.vme_bus.proofs.states.BusState.step_formed.Goals as goal

pub returns-then-slot-ge22-clause-state : goal.returns-then-slot-ge22-clause-state
returns-then-slot-ge22-clause-state c version p h is =
    let near : c.number-slot.result < 22 = subst (λ n. n < 22) (sym c.number-slot.ensures) (near_place c.args.edge c.requires.formed) in
    absurd (omega (arith, near, c.if-slot-ge22.true))
