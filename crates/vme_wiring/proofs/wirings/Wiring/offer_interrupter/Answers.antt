use Rattle.vme_model.specs.declared.signals.Driver.TheVariants.{Slot}
use Rattle.vme_model.specs.declared.signals.Wire.TheVariants.{Irq, IackOut, Dtack}
use Rattle.vme_model.specs.Offers.{turned}
use Rattle.vme_wiring.specs.Offered.{is_open, offered_on, interrupter_wires}
use Rattle.vme_wiring.proofs.More.{three_more, none_more}
use Rattle.vme_wiring.proofs.wirings.Wiring.offer_interrupter.Goals as goal

pub returns-then-is_interrupter_waiting-clause-offered : goal.returns-then-is_interrupter_waiting-clause-offered
returns-then-is_interrupter_waiting-clause-offered c version p h is =
    let s = c.args.slot in
    none_more c.args.offers.now.items (offered_on version p h (Slot s) interrupter_wires) (c.is_interrupter_waiting.ensures.none version p h s is c.requires.placed c.if-is_interrupter_waiting.true)

pub returns-clause-offered : goal.returns-clause-offered
returns-clause-offered c version p h is =
    let d = Slot c.args.slot in
    three_more (is_open version p h) c.args.offers.now.items c.offer_turned.new.offers.items c.offer_turned-2.new.offers.items c.offer_turned-3.new.offers.items
    (turned h d Irq) (turned h d IackOut) (turned h d Dtack)
    (c.offer_turned.ensures.offered version p h is) (c.offer_turned-2.ensures.offered version p h is) (c.offer_turned-3.ensures.offered version p h is)
