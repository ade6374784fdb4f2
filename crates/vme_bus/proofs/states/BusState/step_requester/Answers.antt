use Rattle.std.proofs.Common.{◌≡◌, ◌∙◌, sym, ap, subst, Bool, ◌∷◌}
use Rattle.std.specs.Prelude.{if◌then◌else◌, Ok, Err, is_ok}
use Rattle.vme_model.specs.declared.signals.Driver.{Driver}
use Rattle.vme_model.specs.declared.signals.Driver.TheVariants.{Slot}
use Rattle.vme_model.specs.declared.signals.Edge.{Edge}
use Rattle.vme_model.specs.declared.signals.Wire.{Wire}
use Rattle.vme_model.specs.Verdict.{verdict_but_full}
use Rattle.vme_bus.specs.States.{IsStateOf}
use Rattle.vme_model.specs.Deliveries.{delivery, with_delivery}
use Rattle.vme_bus.proofs.Numbers.{short_but_full}
use Rattle.vme_bus.proofs.states.BusState.step_requester.Goals as goal

pub returns-in-Ok-clause-state : goal.returns-in-Ok-clause-state
returns-in-Ok-clause-state c version p h is =
    let e = c.args.edge in
    let same : (record e { driver = Slot c.args.slot; wire = c.args.wire; fall = c.args.fall }) ≡ e = ap (λ (d : Driver). record e { driver = d; wire = c.args.wire; fall = c.args.fall }) c.requires.slot ∙ ap (λ (w : Wire). record e { wire = w; fall = c.args.fall }) c.requires.wire ∙ ap (λ (f : Bool). record e { fall = f }) c.requires.fall in
    let allowed : verdict_but_full version p h e ≡ Ok tt = ap (λ (x : Edge). verdict_but_full version p h x) (sym same) ∙ sym (c.judge_requester.ensures version p h is) ∙ c.in-Ok.is in
    subst (λ k. IsStateOf version p k c.take_requester.new.self)
    (ap (λ (x : Edge). x ∷ h) same ∙ sym (ap (λ v. if is_ok v then e ∷ h else h) allowed))
    (c.take_requester.ensures.state version p h is (sym (c.judge_requester.ensures version p h is) ∙ c.in-Ok.is))

pub returns-in-Err-clause-answer : goal.returns-in-Err-clause-answer
returns-in-Err-clause-answer c version p h is =
    let e = c.args.edge in
    let same : (record e { driver = Slot c.args.slot; wire = c.args.wire; fall = c.args.fall }) ≡ e = ap (λ (d : Driver). record e { driver = d; wire = c.args.wire; fall = c.args.fall }) c.requires.slot ∙ ap (λ (w : Wire). record e { wire = w; fall = c.args.fall }) c.requires.wire ∙ ap (λ (f : Bool). record e { fall = f }) c.requires.fall in
    let refused : verdict_but_full version p h e ≡ Err c.in-Err.refused = ap (λ (x : Edge). verdict_but_full version p h x) (sym same) ∙ sym (c.judge_requester.ensures version p h is) ∙ c.in-Err.is in
    c.refusal_number.ensures (short_but_full version p h e c.in-Err.refused refused) c.args.delivery.now
    ∙ sym (ap (λ v. with_delivery v (delivery p h e)) refused)

pub returns-in-Err-clause-state : goal.returns-in-Err-clause-state
returns-in-Err-clause-state c version p h is =
    let e = c.args.edge in
    let same : (record e { driver = Slot c.args.slot; wire = c.args.wire; fall = c.args.fall }) ≡ e = ap (λ (d : Driver). record e { driver = d; wire = c.args.wire; fall = c.args.fall }) c.requires.slot ∙ ap (λ (w : Wire). record e { wire = w; fall = c.args.fall }) c.requires.wire ∙ ap (λ (f : Bool). record e { fall = f }) c.requires.fall in
    let refused : verdict_but_full version p h e ≡ Err c.in-Err.refused = ap (λ (x : Edge). verdict_but_full version p h x) (sym same) ∙ sym (c.judge_requester.ensures version p h is) ∙ c.in-Err.is in
    subst (λ k. IsStateOf version p k c.args.self.now) (sym (ap (λ v. if is_ok v then e ∷ h else h) refused)) is
