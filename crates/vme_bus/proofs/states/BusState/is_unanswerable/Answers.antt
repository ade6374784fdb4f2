use Rattle.std.proofs.Common.{◌∙◌, sym, ap}
use Rattle.std.specs.Prelude.{Option, Some, not}
use Rattle.vme_model.specs.declared.signals.Cycle.{Cycle}
use Rattle.vme_model.specs.Plan.{board}
use Rattle.vme_model.specs.Settling.{is_unanswerable}
use Rattle.vme_bus.proofs.OneSlot.{none_there}
use Rattle.vme_bus.proofs.states.BusState.is_unanswerable.Goals as goal

pub returns-in-Some-Access : goal.returns-in-Some-Access
returns-in-Some-Access c version p h is =
    ap not (c.has.ensures ∙ is.layout.boards c.in-Some-Access.slot)
    ∙ none_there (board p c.in-Some-Access.slot)
    ∙ ap (λ (v : Option Cycle). is_unanswerable p h v) (sym (ap (λ (x : Cycle). Some x) c.in-Some-Access.field-0-is) ∙ sym c.in-Some-Access.is ∙ c.shown.ensures ∙ is.shown)
