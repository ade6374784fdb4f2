use Rattle.std.proofs.Common.{◌∙◌, sym, ap}
use Rattle.vme_model.specs.declared.signals.Driver.{Driver}
use Rattle.vme_wiring.specs.Offered.{offered_but_full}
use Rattle.vme_wiring.proofs.offers.put_offers.Goals as goal

pub returns-in-Slot : goal.returns-in-Slot
returns-in-Slot g c version p h is =
    c.put_slot.ensures version p h is ∙ sym (ap (λ (d : Driver). offered_but_full version p h d) c.in-Slot.is)
