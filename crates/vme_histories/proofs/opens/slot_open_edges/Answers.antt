use Rattle.std.proofs.Common.{◌∙◌, ap, ◌++◌, ◌∷◌, [], List, filter}
use Rattle.vme_model.specs.declared.signals.Driver.TheVariants.{Slot}
use Rattle.vme_model.specs.declared.signals.Edge.{Edge}
use Rattle.vme_model.specs.declared.signals.Wire.{Wire}
use Rattle.vme_model.specs.declared.signals.Wire.TheVariants.{Br, BgOut, Bbsy, Addr, AddressStrobe, DataStrobe, Irq, IackOut, Dtack}
use Rattle.vme_model.specs.Offers.{turned}
use Rattle.vme_model.specs.Open.{moves}
use Rattle.vme_histories.specs.Offered.{is_open}
use Rattle.vme_histories.proofs.More.{one_more, three_more}
use Rattle.vme_histories.proofs.opens.slot_open_edges.Goals as goal

pub returns : goal.returns
returns g c version p h is =
    let test = is_open version p h in
    let d = Slot c.args.slot in
    let at : Wire → Edge = turned h d in
    let group = moves h d Addr in
    let e0 = c.new-edges.result.items in
    let e3 = c.offer_turned-3.new.offers.items in
    let e4 = c.open_address.new.edges.items in
    let e7 = c.offer_turned-6.new.offers.items in
    let e9 = c.offer_turned-8.new.offers.items in
    let requests = three_more test e0 c.offer_turned.new.offers.items c.offer_turned-2.new.offers.items e3 (at Br) (at BgOut) (at Bbsy)
    (c.offer_turned.ensures.offered version p h is) (c.offer_turned-2.ensures.offered version p h is) (c.offer_turned-3.ensures.offered version p h is) in
    let addresses = one_more test e0 e3 e4 (at Br ∷ at BgOut ∷ at Bbsy ∷ []) group requests (c.open_address.ensures.opened version p h is) in
    let strobes = three_more test e4 c.offer_turned-4.new.offers.items c.offer_turned-5.new.offers.items e7 (at AddressStrobe) (at DataStrobe) (at Irq)
    (c.offer_turned-4.ensures.offered version p h is) (c.offer_turned-5.ensures.offered version p h is) (c.offer_turned-6.ensures.offered version p h is) in
    let answers = one_more test e7 c.offer_turned-7.new.offers.items e9 (at IackOut ∷ []) (at Dtack ∷ [])
    (c.offer_turned-7.ensures.offered version p h is) (c.offer_turned-8.ensures.offered version p h is) in
    let behind = one_more test e4 e7 e9 (at AddressStrobe ∷ at DataStrobe ∷ at Irq ∷ []) (at IackOut ∷ at Dtack ∷ []) strobes answers in
    one_more test e0 e4 e9 (at Br ∷ at BgOut ∷ at Bbsy ∷ group) (at AddressStrobe ∷ at DataStrobe ∷ at Irq ∷ at IackOut ∷ at Dtack ∷ []) addresses behind
    ∙ ap (λ (t : List Edge). t ++ filter test (at Br ∷ at BgOut ∷ at Bbsy ∷ (group ++ at AddressStrobe ∷ at DataStrobe ∷ at Irq ∷ at IackOut ∷ at Dtack ∷ []))) c.new-edges.ensures
