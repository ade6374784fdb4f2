use Rattle.std.proofs.Common.{◌≡◌, ◌∙◌, sym, true, false}
use Rattle.vme_model.specs.declared.signals.Wire.TheVariants.{Irq}
use Rattle.vme_model.specs.History.{drive}
use Rattle.vme_explain.proofs.Witnessed.{service_witness, service_high}
use Rattle.vme_explain.proofs.parts.service.Goals as goal

pub returns-in_ok-since-in-Slot : goal.returns-in_ok-since-in-Slot
returns-in_ok-since-in-Slot c = λ k at is.
    let b = c.args.bus.now in
    let d = c.args.driver in
    let low : drive b.history d Irq ≡ true = cc (c.is_low.ensures.low, c.if-is_low.true, c.in-Slot.is) in
    service_witness b k d c.in-Slot.slot c.in_ok-interrupter.interrupter c.in_ok-since-in-Slot.since c.in-Slot.is low
    (sym c.interrupter_of.ensures ∙ c.in_ok-interrupter.was) (sym (c.served_since.ensures b.plan k is) ∙ c.in_ok-since-in-Slot.was)

pub returns-in_default : goal.returns-in_default
returns-in_default c = λ k at is.
    let b = c.args.bus.now in
    let d = c.args.driver in
    let high : drive b.history d Irq ≡ false = cc (c.is_low.ensures.low, c.if-is_low.false, c.in-Slot.is) in
    service_high b k d high
