use Rattle.std.proofs.Common.{◌∙◌, sym}
use Rattle.vme_model.specs.declared.signals.Driver.TheVariants.{Slot}
use Rattle.vme_model.specs.declared.signals.Wire.TheVariants.{Addr, AddressStrobe, DataStrobe}
use Rattle.vme_model.specs.Offers.{turned, considered}
use Rattle.vme_wiring.specs.Offered.{is_open, offered_on, master_wires}
use Rattle.vme_wiring.proofs.More.{two_more_behind, none_more}
use Rattle.vme_wiring.proofs.NoOffers.{master_idle}
use Rattle.vme_wiring.proofs.offers.offer_master.Goals as goal

pub returns-then-is_waiting-clause-offered : goal.returns-then-is_waiting-clause-offered
returns-then-is_waiting-clause-offered g c version p h is =
    let s = c.args.slot in
    none_more c.args.offers.now.items (offered_on version p h (Slot s) master_wires)
    (master_idle version p h s (g.met.J.Judges.is_legal version p h c.args.state.now is) (sym (c.requires.known version p h is) ∙ c.if-is_waiting.true))

pub returns-clause-offered : goal.returns-clause-offered
returns-clause-offered g c version p h is =
    let d = Slot c.args.slot in
    two_more_behind (is_open version p h) c.args.offers.now.items c.offer_address.new.offers.items c.offer_turned.new.offers.items c.offer_turned-2.new.offers.items
    (considered p h d Addr) (turned h d AddressStrobe) (turned h d DataStrobe)
    (c.offer_address.ensures.offered version p h is) (c.offer_turned.ensures.offered version p h is) (c.offer_turned-2.ensures.offered version p h is)
