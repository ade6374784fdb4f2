use Rattle.std.proofs.Common.{sym, subst}
use Rattle.vme_bus.specs.declared.layouts.Line.TheVariants.{Interrupt}
use Rattle.vme_bus.specs.Layouts.{HoldsLine, set_at}
use Rattle.vme_bus.proofs.Lines.{interrupt_is}
use Rattle.vme_bus.proofs.states.BusState.interrupt.Goals as goal

pub returns : goal.returns
returns c version p h is =
    let n = c.args.level in
    let sets = c.args.self.now.layout.interrupts in
    let on = subst (λ x. HoldsLine p (Interrupt n) (set_at sets x)) (sym c.from.ensures) (is.layout.interrupts n c.requires) in
    interrupt_is p h n c.and.result c.args.self.now.irq (set_at sets c.from.result) is.accepted is.irq on c.and.ensures c.is_some.result c.is_some.ensures.some c.is_some.ensures.none
