use Rattle.std.proofs.Common.{◌∙◌, sym, ap}
use Rattle.std.specs.Prelude.{Option, Some}
use Rattle.vme_model.specs.declared.signals.Cycle.{Cycle}
use Rattle.vme_model.specs.declared.signals.Driver.TheVariants.{Slot}
use Rattle.vme_model.specs.Readings.{readings}
use Rattle.vme_bus.specs.Asks.{asks_at}
use Rattle.vme_bus.proofs.states.BusState.asks.Goals as goal

pub returns-in-Some-Acknowledge : goal.returns-in-Some-Acknowledge
returns-in-Some-Acknowledge c version p h is =
    c.is_pending.ensures version p h is
    ∙ ap (λ (v : Option Cycle). asks_at (readings p h (Slot c.args.slot)) v) (sym (ap (λ (x : Cycle). Some x) c.in-Some-Acknowledge.field-0-is) ∙ sym c.in-Some-Acknowledge.is
    ∙ c.shown.ensures ∙ is.shown)
