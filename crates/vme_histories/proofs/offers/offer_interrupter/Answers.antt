use Rattle.vme_model.specs.declared.signals.Driver.TheVariants.{Slot}
use Rattle.vme_model.specs.declared.signals.Wire.TheVariants.{Irq, IackOut, Dtack}
use Rattle.vme_model.specs.Offers.{turned}
use Rattle.vme_histories.specs.Offered.{is_open, offered_on, interrupter_wires}
use Rattle.vme_histories.proofs.More.{three_more, none_more}
use Rattle.vme_histories.proofs.offers.offer_interrupter.Goals as goal

pub returns-then-is_waiting-clause-offered : goal.returns-then-is_waiting-clause-offered
returns-then-is_waiting-clause-offered g c version p h is none =
    none_more c.args.offers.now.items (offered_on version p h (Slot c.args.slot) interrupter_wires)
    (none c.if-is_waiting.true)

pub returns-clause-offered : goal.returns-clause-offered
returns-clause-offered g c version p h is none =
    let d = Slot c.args.slot in
    three_more (is_open version p h) c.args.offers.now.items c.offer_turned.new.offers.items c.offer_turned-2.new.offers.items c.offer_turned-3.new.offers.items
    (turned h d Irq) (turned h d IackOut) (turned h d Dtack)
    (c.offer_turned.ensures.offered version p h is) (c.offer_turned-2.ensures.offered version p h is) (c.offer_turned-3.ensures.offered version p h is)
