use Rattle.std.proofs.Common.{◌∙◌, ap, ◌++◌, List}
use Rattle.vme_model.specs.declared.signals.Driver.TheVariants.{Slot}
use Rattle.vme_model.specs.declared.signals.Edge.{Edge}
use Rattle.vme_histories.specs.Offered.{offered_on, requester_wires, master_wires, interrupter_wires}
use Rattle.vme_histories.proofs.NoOffers.{parts_joined}
use Rattle.vme_histories.proofs.offers.put_parts.Goals as goal

pub returns : goal.returns
returns g c version p h is no_request no_cycle no_answer =
    let s = c.args.slot in
    let r = offered_on version p h (Slot s) requester_wires in
    let m = offered_on version p h (Slot s) master_wires in
    let i = offered_on version p h (Slot s) interrupter_wires in
    c.offer_interrupter.ensures.offered version p h is no_answer
    ∙ ap (λ (t : List Edge). t ++ i) (c.offer_master.ensures.offered version p h is no_cycle ∙ ap (λ (t : List Edge). t ++ m) (c.offer_requester.ensures.offered version p h is no_request
    ∙ ap (λ (t : List Edge). t ++ r) c.requires.empty))
    ∙ parts_joined version p h s
