use Rattle.std.proofs.Common.{◌∙◌, sym, ap}
use Rattle.vme_model.specs.declared.signals.Driver.{Driver}
use Rattle.vme_histories.specs.Offered.{offered_but_full}
use Rattle.vme_bus.specs.Sets.{has}
use Rattle.vme_bus.proofs.Ready.{not_held}
use Rattle.vme_bus.proofs.buses.Bus.put_ready.Goals as goal

pub returns-in-Slot : goal.returns-in-Slot
returns-in-Slot g c =
    let b = c.args.self.now in
    let s = c.in-Slot.slot in
    c.put_parts.ensures b.version b.plan b.history c.state-in-Slot.ensures
    (λ waits. c.requires.ready.requesters s (not_held (has c.args.ready.requesters s) _ c.waiting.ensures.requester waits))
    (λ waits. c.requires.ready.masters s (not_held (has c.args.ready.masters s) _ c.waiting.ensures.master waits))
    (λ waits. c.requires.ready.interrupters s (not_held (has c.args.ready.interrupters s) _ c.waiting.ensures.interrupter waits))
    ∙ sym (ap (λ (d : Driver). offered_but_full b.version b.plan b.history d) c.in-Slot.is)
