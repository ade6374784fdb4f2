use Rattle.vme_model.specs.declared.signals.Driver.TheVariants.{Slot}
use Rattle.vme_model.specs.declared.signals.Wire.TheVariants.{Addr, AddressStrobe, DataStrobe}
use Rattle.vme_model.specs.Offers.{turned, considered}
use Rattle.vme_wiring.specs.Offered.{is_open, offered_on, master_wires}
use Rattle.vme_wiring.proofs.More.{two_more_behind, none_more}
use Rattle.vme_wiring.proofs.wirings.Wiring.offer_master.Goals as goal

pub returns-then-is_master_waiting-clause-offered : goal.returns-then-is_master_waiting-clause-offered
returns-then-is_master_waiting-clause-offered c version p h is =
    let s = c.args.slot in
    none_more c.args.offers.now.items (offered_on version p h (Slot s) master_wires) (c.is_master_waiting.ensures.none version p h s is c.requires.placed c.if-is_master_waiting.true)

pub returns-clause-offered : goal.returns-clause-offered
returns-clause-offered c version p h is =
    let d = Slot c.args.slot in
    two_more_behind (is_open version p h) c.args.offers.now.items c.offer_address.new.offers.items c.offer_turned.new.offers.items c.offer_turned-2.new.offers.items
    (considered p h d Addr) (turned h d AddressStrobe) (turned h d DataStrobe)
    (c.offer_address.ensures.offered version p h is) (c.offer_turned.ensures.offered version p h is) (c.offer_turned-2.ensures.offered version p h is)
