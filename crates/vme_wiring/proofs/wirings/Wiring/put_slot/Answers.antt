use Rattle.std.proofs.Common.{◌∙◌, sym}
use Rattle.vme_wiring.proofs.NoOffers.{requester_idle, master_idle, interrupter_idle}
use Rattle.vme_wiring.proofs.wirings.Wiring.put_slot.Goals as goal

pub returns : goal.returns
returns c version p h is =
    let s = c.args.slot in
    c.put_parts.ensures version p h is
    (λ waits. requester_idle version p h s is.legal (sym (c.waiting.ensures.requester version p h is) ∙ waits))
    (λ waits. master_idle version p h s is.legal (sym (c.waiting.ensures.master version p h is) ∙ waits))
    (λ waits. interrupter_idle version p h s is.legal (sym (c.waiting.ensures.interrupter version p h is) ∙ waits))
