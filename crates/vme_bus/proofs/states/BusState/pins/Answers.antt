use Rattle.std.proofs.Common.{◌∙◌, sym, ap}
use Rattle.vme_model.specs.declared.signals.Driver.{Driver}
use Rattle.vme_model.specs.Views.{pins}
use Rattle.vme_bus.proofs.states.BusState.pins.Goals as goal

pub returns-in-Slot : goal.returns-in-Slot
returns-in-Slot c version p h is = c.pins_at.ensures version p h is ∙ sym (ap (λ (d : Driver). pins p h d) c.in-Slot.is)
