use Rattle.std.proofs.Common.{◌≡◌, ◌∙◌, refl, sym, ap, arith, Bool, true, subst}
use Rattle.std.specs.Prelude.{◌&&◌, not, None}
use Rattle.vme_model.specs.declared.signals.Driver.TheVariants.{Slot}
use Rattle.vme_model.specs.declared.signals.Edge.{Edge}
use Rattle.vme_model.specs.Readings.{readings}
use Rattle.vme_model.specs.Rules.{rule}
use Rattle.vme_model.specs.Settling.{settling}
use Rattle.vme_model.specs.Signals.{has_value}
use Rattle.vme_model.specs.Offers.{turned}
use Rattle.vme_model.specs.History.{drive}
use Rattle.vme_histories.specs.Asked.{exists}
use Rattle.vme_bus.proofs.Asked.{asks_for, has_board}
use Rattle.vme_bus.proofs.Parts.{masters_of}
use Rattle.vme_bus.proofs.Turned.{beyond_shut, open_where}
use Rattle.vme_bus.proofs.states.BusState.may_transfer.Goals as goal

pub returns-then-slot-gt21 : goal.returns-then-slot-gt21
returns-then-slot-gt21 c version p h is = beyond_shut version p h c.args.slot c.args.wire is.accepted (omega (arith, c.if-slot-gt21.true))

pub returns : goal.returns
returns c version p h is =
    let s = c.args.slot in
    let w = c.args.wire in
    let e = turned h (Slot s) w in
    let low = c.is_driven_low-fall.ensures version p h is in
    let to : Bool → Edge = λ b. record { driver = Slot s; wire = w; fall = not b; value = None } in
    let same : c.edge_to.result ≡ e = c.edge_to.ensures ∙ ap to low in
    let there = sym (ap (exists p) same) ∙ sym (c.exists.ensures.exists version p h is) ∙ c.if-not-exists.false in
    let o = has_board p s e refl there in
    let k = asks_for p s o.0 e o.1 refl there in
    let value = subst (λ (b : Bool). has_value w (not b) None ≡ true) (sym low) k.value in
    ap (λ (b : Bool). b && c.settling-number.result.1)
    (c.master_rule-rule.ensures.answer version p h o.0 is o.1 c.requires (masters_of w o.0 c.requires k.drives) value
    ∙ ap (λ (b : Bool). (rule version (readings p h (Slot s)) w (not b) None).1) low)
    ∙ ap (λ (b : Bool). (rule version (readings p h (Slot s)) w (not (drive h (Slot s) w)) None).1 && b)
    (c.settling-number.ensures.answer version p h is ∙ ap (λ (b : Bool). (settling version p h w (not b)).1) low)
    ∙ open_where version p h (Slot s) w there
