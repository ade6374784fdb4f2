use Rattle.std.proofs.Common.{◌∙◌, ap, ◌++◌, ◌∷◌, [], List, filter}
use Rattle.vme_model.specs.declared.signals.Driver.TheVariants.{Controller}
use Rattle.vme_model.specs.declared.signals.Edge.{Edge}
use Rattle.vme_model.specs.declared.signals.Wire.TheVariants.{Bg, Bclr, Iack, Berr}
use Rattle.vme_model.specs.Offers.{turned}
use Rattle.vme_histories.specs.Offered.{is_open}
use Rattle.vme_histories.proofs.More.{one_more}
use Rattle.vme_histories.proofs.offers.put_controller.Goals as goal

pub returns : goal.returns
returns g c version p h is =
    let test = is_open version p h in
    let o = c.args.offers.now.items in
    let t1 = turned h Controller (Bg 0) in
    let t2 = turned h Controller (Bg 1) in
    let t3 = turned h Controller (Bg 2) in
    let t4 = turned h Controller (Bg 3) in
    let t5 = turned h Controller Bclr in
    let t6 = turned h Controller Iack in
    let t7 = turned h Controller Berr in
    let g1 = c.offer_grant.ensures.offered version p h is in
    let g2 = one_more test o c.offer_grant.new.offers.items c.offer_grant-2.new.offers.items (t1 ∷ []) (t2 ∷ []) g1 (c.offer_grant-2.ensures.offered version p h is) in
    let g3 = one_more test o c.offer_grant-2.new.offers.items c.offer_grant-3.new.offers.items (t1 ∷ t2 ∷ []) (t3 ∷ []) g2 (c.offer_grant-3.ensures.offered version p h is) in
    let g4 = one_more test o c.offer_grant-3.new.offers.items c.offer_grant-4.new.offers.items (t1 ∷ t2 ∷ t3 ∷ []) (t4 ∷ []) g3 (c.offer_grant-4.ensures.offered version p h is) in
    let g5 = one_more test o c.offer_grant-4.new.offers.items c.offer_turned.new.offers.items (t1 ∷ t2 ∷ t3 ∷ t4 ∷ []) (t5 ∷ []) g4 (c.offer_turned.ensures.offered version p h is) in
    let g6 = one_more test o c.offer_turned.new.offers.items c.offer_turned-2.new.offers.items (t1 ∷ t2 ∷ t3 ∷ t4 ∷ t5 ∷ []) (t6 ∷ []) g5 (c.offer_turned-2.ensures.offered version p h is) in
    let g7 = one_more test o c.offer_turned-2.new.offers.items c.offer_turned-3.new.offers.items (t1 ∷ t2 ∷ t3 ∷ t4 ∷ t5 ∷ t6 ∷ []) (t7 ∷ []) g6 (c.offer_turned-3.ensures.offered version p h is) in
    g7 ∙ ap (λ (t : List Edge). t ++ filter test (t1 ∷ t2 ∷ t3 ∷ t4 ∷ t5 ∷ t6 ∷ t7 ∷ [])) c.requires.empty
