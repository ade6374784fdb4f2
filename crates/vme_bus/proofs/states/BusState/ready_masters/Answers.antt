use Rattle.std.proofs.Common.{◌∙◌, sym}
use Rattle.vme_histories.proofs.NoOffers.{master_closed}
use Rattle.vme_bus.specs.Sets.{has}
use Rattle.vme_bus.proofs.Ready.{neither, masters_answered, masters_unanswered, and_is, or_is, and_not_is}
use Rattle.vme_bus.proofs.states.BusState.ready_masters.Goals as goal

pub returns-then-not-address_strobe : goal.returns-then-not-address_strobe
returns-then-not-address_strobe c version p h is s off =
    let b = c.args.self.now in
    let t = neither (has b.bbsy s) _ (sym (c.holding.ensures s) ∙ off) in
    let u = neither _ (has b.data_strobe s) t.1 in
    let v = neither (has b.addr s) (has b.address_strobe s) u.0 in
    master_closed version p h s (sym (is.bbsy s) ∙ t.0) (sym (is.addr s) ∙ v.0) (sym (is.address_strobe s) ∙ v.1) (sym (is.data_strobe s) ∙ u.1)

pub returns-then-dtack-berr : goal.returns-then-dtack-berr
returns-then-dtack-berr c version p h is s off =
    let b = c.args.self.now in
    let t = neither _ _ (sym (c.or-then-dtack-berr.ensures s) ∙ off) in
    let u = neither _ _ (sym (c.or.ensures s) ∙ t.0) in
    masters_answered version p h s
    (sym (c.address_strobe.ensures version p h is) ∙ c.if-not-address_strobe.false)
    (or_is c.dtack.result c.berr.result _ _ (c.dtack.ensures version p h is) (c.berr.ensures version p h is) ∙ c.if-dtack-berr.true)
    (and_not_is (has b.address_strobe s) (has b.addr s) _ _ (is.address_strobe s) (is.addr s) ∙ sym (c.except-ending.ensures s) ∙ u.0)
    (sym (is.data_strobe s) ∙ u.1)
    (and_is (has b.address_strobe s) (has b.strobed s) _ _ (is.address_strobe s) (is.strobed s) ∙ sym (c.and-strobed.ensures s) ∙ t.1)

pub returns-else-dtack-berr : goal.returns-else-dtack-berr
returns-else-dtack-berr c version p h is s off =
    let b = c.args.self.now in
    let t = neither _ _ (sym (c.or-else-dtack-berr.ensures s) ∙ off) in
    masters_unanswered version p h s
    (sym (c.address_strobe.ensures version p h is) ∙ c.if-not-address_strobe.false)
    (or_is c.dtack.result c.berr.result _ _ (c.dtack.ensures version p h is) (c.berr.ensures version p h is) ∙ c.if-dtack-berr.false)
    (and_not_is (has b.address_strobe s) (has b.addr s) _ _ (is.address_strobe s) (is.addr s) ∙ sym (c.except-ending.ensures s) ∙ t.0)
    (and_not_is (has b.address_strobe s) (has b.data_strobe s) _ _ (is.address_strobe s) (is.data_strobe s) ∙ sym (c.except.ensures s) ∙ t.1)
