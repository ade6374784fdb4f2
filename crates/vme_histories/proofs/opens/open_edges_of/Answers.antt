use Rattle.std.proofs.Common.{◌∙◌, sym, ap}
use Rattle.vme_model.specs.declared.signals.Driver.{Driver}
use Rattle.vme_histories.specs.Opens.{open_but_full}
use Rattle.vme_histories.proofs.opens.open_edges_of.Goals as goal

pub returns-in-Slot : goal.returns-in-Slot
returns-in-Slot g c version p h is =
    c.slot_open_edges.ensures version p h is ∙ sym (ap (λ (d : Driver). open_but_full version p h d) c.in-Slot.is)
