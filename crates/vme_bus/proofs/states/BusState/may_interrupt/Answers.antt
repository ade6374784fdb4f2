use Rattle.std.proofs.Common.{◌≡◌, ◌∙◌, refl, sym, ap, arith, Bool}
use Rattle.std.specs.Prelude.{not, None}
use Rattle.vme_model.specs.declared.signals.Driver.TheVariants.{Slot}
use Rattle.vme_model.specs.declared.signals.Edge.{Edge}
use Rattle.vme_model.specs.Readings.{readings}
use Rattle.vme_model.specs.Rules.{rule}
use Rattle.vme_model.specs.Offers.{turned}
use Rattle.vme_model.specs.History.{drive}
use Rattle.vme_histories.specs.Asked.{exists}
use Rattle.vme_bus.proofs.Asked.{asks_for, has_board}
use Rattle.vme_bus.proofs.Turned.{beyond_shut, open_by_rule, interrupters_settle}
use Rattle.vme_bus.proofs.states.BusState.may_interrupt.Goals as goal

pub returns-then-slot-gt21 : goal.returns-then-slot-gt21
returns-then-slot-gt21 c version p h is = beyond_shut version p h c.args.slot c.args.wire is.accepted (omega (arith, c.if-slot-gt21.true))

pub returns : goal.returns
returns c version p h is =
    let s = c.args.slot in
    let w = c.args.wire in
    let e = turned h (Slot s) w in
    let low = c.is_driven_low-fall.ensures version p h is in
    let to : Bool → Edge = λ b. record { driver = Slot s; wire = w; fall = not b; value = None } in
    let same : c.edge_to.result ≡ e = c.edge_to.ensures ∙ ap to low in
    let there = sym (ap (exists p) same) ∙ sym (c.exists.ensures.exists version p h is) ∙ c.if-not-exists.false in
    let o = has_board p s e refl there in
    let k = asks_for p s o.0 e o.1 refl there in
    c.interrupter_rule-rule.ensures.answer version p h o.0 is o.1 None c.requires
    ∙ ap (λ (b : Bool). (rule version (readings p h (Slot s)) w (not b) None).1) low
    ∙ open_by_rule version p h (Slot s) w there (interrupters_settle version p h w (not (drive h (Slot s) w)) c.requires)
