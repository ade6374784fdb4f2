use Rattle.std.proofs.Common.{◌≡◌, ◌∙◌, refl, sym, ap, true, []}
use Rattle.std.specs.Prelude.{◌&&◌, ◌||◌, not, Option, Some, None}
use Rattle.vme_model.specs.declared.boards.Row.{Row}
use Rattle.vme_model.specs.declared.signals.Driver.TheVariants.{Slot}
use Rattle.vme_model.specs.declared.signals.Wire.TheVariants.{AddressStrobe, IackOut, Dtack}
use Rattle.vme_model.specs.Plan.{board}
use Rattle.vme_model.specs.History.{drive, line}
use Rattle.vme_histories.specs.Offered.{offered_on, interrupter_wires}
use Rattle.vme_histories.specs.Shown.{is_access_to}
use Rattle.vme_histories.proofs.AllowedBoards.{stands}
use Rattle.vme_histories.proofs.NoOffers.{interrupter_of_none}
use Rattle.vme_bus.specs.Records.{cycle_in}
use Rattle.vme_bus.specs.Sets.{has}
use Rattle.vme_bus.proofs.Ready.{neither, interrupters_between, interrupters_under, and_not_is}
use Rattle.vme_bus.proofs.states.BusState.ready_interrupters.Goals as goal

pub returns-then-data_strobe : goal.returns-then-data_strobe
returns-then-data_strobe c version p h is s off = by_board (board p s) refl
  where
    by_board : (o : Option Row) → board p s ≡ o → offered_on version p h (Slot s) interrupter_wires ≡ []
    by_board None found = interrupter_of_none version p h s found
    by_board (Some r) found =
        let b = c.args.self.now in
        let near = (stands p s r is.accepted found).near in
        let t = neither _ _ (sym (c.or.ensures s) ∙ off) in
        let u = neither _ _ (sym (c.or-own.ensures s) ∙ t.0) in
        let access = has b.layout.boards s && is_access_to s (cycle_in b.shown) in
        interrupters_under version p h s (has b.layout.interrupters s) (has b.layout.boards s) (is_access_to s (cycle_in b.shown))
        (is.layout.interrupters s) (is.layout.boards s)
        (sym (c.data_strobe.ensures version p h is) ∙ c.if-data_strobe.true)
        (ap (λ x. has b.layout.interrupters s && not x) (and_not_is (has b.irq s) (has b.served s) _ _ (is.irq s) (is.served s) ∙ sym (c.except-waiting.ensures s))
        ∙ sym (c.except-asking.ensures s) ∙ u.0)
        (ap (λ x. not (line p h AddressStrobe) && (has b.layout.interrupters s && x)) (sym (is.acknowledges s near)) ∙ sym (c.passing_back.ensures version p h is s) ∙ u.1)
        (λ low. ap (λ v. is_access_to s v) is.shown)
        (ap (λ x. ((x && not (drive h (Slot s) IackOut)) || access) && not (drive h (Slot s) Dtack)) (sym (is.acknowledged s))
        ∙ ap (λ x. ((has b.acknowledged s && not x) || access) && not (drive h (Slot s) Dtack)) (sym (is.acknowledges s near))
        ∙ ap (λ x. ((has b.acknowledged s && not (has b.acknowledges s)) || access) && not x) (sym (is.dtack s))
        ∙ sym (c.called.ensures s near) ∙ t.1)
        is.accepted

pub returns-else-data_strobe : goal.returns-else-data_strobe
returns-else-data_strobe c version p h is s off = by_board (board p s) refl
  where
    by_board : (o : Option Row) → board p s ≡ o → offered_on version p h (Slot s) interrupter_wires ≡ []
    by_board None found = interrupter_of_none version p h s found
    by_board (Some r) found =
        let b = c.args.self.now in
        let near = (stands p s r is.accepted found).near in
        let t = neither _ _ (sym (c.or-else-data_strobe.ensures s) ∙ off) in
        let u = neither _ _ (sym (c.or-own.ensures s) ∙ t.0) in
        interrupters_between version p h s (has b.layout.interrupters s)
        (is.layout.interrupters s)
        (sym (c.data_strobe.ensures version p h is) ∙ c.if-data_strobe.false)
        (ap (λ x. has b.layout.interrupters s && not x) (and_not_is (has b.irq s) (has b.served s) _ _ (is.irq s) (is.served s) ∙ sym (c.except-waiting.ensures s))
        ∙ sym (c.except-asking.ensures s) ∙ u.0)
        (ap (λ x. not (line p h AddressStrobe) && (has b.layout.interrupters s && x)) (sym (is.acknowledges s near)) ∙ sym (c.passing_back.ensures version p h is s) ∙ u.1)
        (sym (is.dtack s) ∙ t.1)
