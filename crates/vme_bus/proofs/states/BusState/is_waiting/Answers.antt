use Rattle.std.proofs.Common.{◌∙◌, sym, ap}
use Rattle.std.specs.Prelude.{◌&&◌}
use Rattle.vme_model.specs.declared.signals.Driver.{Driver}
use Rattle.vme_wiring.specs.Judged.{requester_waits, master_waits}
use Rattle.vme_wiring.specs.Waits.{is_waiting}
use Rattle.vme_wiring.proofs.NoOffers.{waiting_none}
use Rattle.vme_bus.proofs.WaitingParts.{parts_wait}
use Rattle.vme_bus.proofs.states.BusState.is_waiting.Goals as goal

pub returns-in-Slot-clause-waits : goal.returns-in-Slot-clause-waits
returns-in-Slot-clause-waits c version p h is =
    let s = c.in-Slot.slot in
    let w = c.waiting_parts-waiting in
    ap (λ b. (b && w.result.master) && w.result.interrupter) (w.ensures.requester version p h is)
    ∙ ap (λ b. (requester_waits version p h s && b) && w.result.interrupter) (w.ensures.master version p h is)
    ∙ ap (λ b. (requester_waits version p h s && master_waits p h s) && b) (w.ensures.interrupter version p h is)
    ∙ parts_wait version p h s
    ∙ sym (ap (λ (d : Driver). is_waiting version p h d) c.in-Slot.is)

pub returns-in-Slot-clause-none : goal.returns-in-Slot-clause-none
returns-in-Slot-clause-none c version p h is waits =
    waiting_none version p h c.args.driver is.legal (sym (returns-in-Slot-clause-waits c version p h is) ∙ waits)
