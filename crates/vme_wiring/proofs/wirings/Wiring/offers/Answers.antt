use Rattle.std.proofs.Common.{◌∙◌, sym, ap}
use Rattle.vme_model.specs.declared.signals.Driver.{Driver}
use Rattle.vme_histories.specs.Offered.{offered_but_full}
use Rattle.vme_wiring.proofs.NoOffers.{requester_idle, master_idle, interrupter_idle}
use Rattle.vme_wiring.proofs.wirings.Wiring.offers.Goals as goal

pub returns-in-Slot : goal.returns-in-Slot
returns-in-Slot c version p h is =
    let s = c.in-Slot.slot in
    c.put_parts.ensures version p h is
    (λ waits. requester_idle version p h s is.legal (sym (c.waiting.ensures.requester version p h is) ∙ waits))
    (λ waits. master_idle version p h s is.legal (sym (c.waiting.ensures.master version p h is) ∙ waits))
    (λ waits. interrupter_idle version p h s is.legal (sym (c.waiting.ensures.interrupter version p h is) ∙ waits))
    ∙ sym (ap (λ (d : Driver). offered_but_full version p h d) c.in-Slot.is)
