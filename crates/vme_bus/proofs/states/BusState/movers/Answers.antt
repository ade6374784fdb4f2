use Rattle.std.proofs.Common.{◌∙◌, sym, ap, true}
use Rattle.std.specs.Prelude.{◌&&◌}
use Rattle.vme_model.specs.declared.signals.Driver.TheVariants.{Slot}
use Rattle.vme_wiring.specs.Judged.{master_waits, interrupter_waits}
use Rattle.vme_wiring.proofs.NoOffers.{waiting_none}
use Rattle.vme_bus.specs.Sets.{has}
use Rattle.vme_bus.proofs.WaitingParts.{parts_wait}
use Rattle.vme_bus.proofs.AtWork.{neither, waits_then}
use Rattle.vme_bus.proofs.states.BusState.movers.Goals as goal

pub returns-clause-waits : goal.returns-clause-waits
returns-clause-waits c version p h is s off =
    let t = neither (has c.or.result s) (has c.answering_at_work.result s) (sym (c.or-2.ensures s) ∙ off) in
    let u = neither (has c.requesters_at_work.result s) (has c.masters_at_work.result s) (sym (c.or.ensures s) ∙ t.0) in
    sym (parts_wait version p h s)
    ∙ ap (λ x. (x && master_waits p h s) && interrupter_waits p h s) (waits_then _ (sym (c.requesters_at_work.ensures version p h is s) ∙ u.0))
    ∙ ap (λ x. (true && x) && interrupter_waits p h s) (waits_then _ (sym (c.masters_at_work.ensures version p h is s) ∙ u.1))
    ∙ waits_then _ (sym (c.answering_at_work.ensures version p h is s) ∙ t.1)

pub returns-clause-none : goal.returns-clause-none
returns-clause-none c version p h is s off = waiting_none version p h (Slot s) is.legal (returns-clause-waits c version p h is s off)
