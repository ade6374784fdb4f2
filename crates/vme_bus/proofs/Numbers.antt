-- Each refusal has a number of its own: `BusState::step_requester` and its like, `Bus::number_when_full`.
use Rattle.std.proofs.Common.{◌≡◌, ◌∙◌, refl, sym, ap, subst, Bool, true, false, List, ◌∷◌, Option}
use Rattle.std.specs.Prelude.{if◌then◌else◌, Result, Ok, Err, is_ok}
use Rattle.vme_model.specs.declared.deliveries.Delivery.{Delivery}
use Rattle.vme_model.specs.declared.refusals.Refused.{Refused}
use Rattle.vme_model.specs.declared.refusals.Refused.TheVariants.{NoSuchDriver, AlreadyThere, Rule, NotSettled, TraceFull}
use Rattle.vme_model.specs.declared.signals.Cycle.{Cycle}
use Rattle.vme_model.specs.declared.signals.Version.{Version}
use Rattle.vme_model.specs.declared.signals.Driver.{Driver}
use Rattle.vme_model.specs.declared.signals.Edge.{Edge}
use Rattle.vme_model.specs.declared.signals.Wire.{Wire}
use Rattle.vme_model.specs.declared.signals.Wire.TheVariants.{Bg, Bclr, Iack, Berr, Br, BgOut, Bbsy, Addr, AddressStrobe, DataStrobe, Irq, IackOut, Dtack}
use Rattle.vme_model.specs.Plan.{Plan}
use Rattle.vme_model.specs.Deliveries.{delivery, with_delivery}
use Rattle.vme_model.specs.Guards.{holds}
use Rattle.vme_model.specs.Readings.{Readings, readings}
use Rattle.vme_model.specs.Rules.{rule}
use Rattle.vme_model.specs.Settling.{settling}
use Rattle.vme_model.specs.Verdict.{State, Judgement, check, driver_guard, state_guard, room_guard, settled, judged, verdict, verdict_but_full}
use Rattle.vme_bus.specs.declared.states.BusState.{BusState}
use Rattle.vme_bus.specs.Answers.{is_short}
use Rattle.vme_bus.specs.States.{IsStateOf}
use Rattle.vme_bus.specs.Steps.{answer_but_full, kept_but_full}

abbrev pub are_short : Judgement → Bool
are_short (Ok u) = true
are_short (Err refused) = is_short refused

pub rule_short : (version : Version) (r : Readings) (w : Wire) (fall : Bool) (v : Option Cycle) → is_short (Rule (rule version r w fall v).0) ≡ true
rule_short version r (Bg n) true v = refl
rule_short version r (Bg n) false v = refl
rule_short version r Bclr true v = refl
rule_short version r Bclr false v = refl
rule_short version r Iack true v = refl
rule_short version r Iack false v = refl
rule_short version r Berr true v = refl
rule_short version r Berr false v = refl
rule_short version r Br true v = refl
rule_short version r Br false v = refl
rule_short version r BgOut true v = refl
rule_short version r BgOut false v = refl
rule_short version r Bbsy true v = refl
rule_short version r Bbsy false v = refl
rule_short version r Addr true v = refl
rule_short version r Addr false v = refl
rule_short version r AddressStrobe true v = refl
rule_short version r AddressStrobe false v = refl
rule_short version r DataStrobe true v = refl
rule_short version r DataStrobe false v = refl
rule_short version r Irq true v = refl
rule_short version r Irq false v = refl
rule_short version r IackOut true v = refl
rule_short version r IackOut false v = refl
rule_short version r Dtack true v = refl
rule_short version r Dtack false v = refl

pub settling_short : (version : Version) (p : Plan) (h : List Edge) (w : Wire) (fall : Bool) → is_short (NotSettled (settling version p h w fall).0) ≡ true
settling_short version p h (Bg n) true = refl
settling_short version p h (Bg n) false = refl
settling_short version p h Bclr true = refl
settling_short version p h Bclr false = refl
settling_short version p h Iack true = refl
settling_short version p h Iack false = refl
settling_short version p h Berr true = refl
settling_short version p h Berr false = refl
settling_short version p h Br true = refl
settling_short version p h Br false = refl
settling_short version p h BgOut true = refl
settling_short version p h BgOut false = refl
settling_short version p h Bbsy true = refl
settling_short version p h Bbsy false = refl
settling_short version p h Addr true = refl
settling_short version p h Addr false = refl
settling_short version p h AddressStrobe true = refl
settling_short version p h AddressStrobe false = refl
settling_short version p h DataStrobe true = refl
settling_short version p h DataStrobe false = refl
settling_short version p h Irq true = refl
settling_short version p h Irq false = refl
settling_short version p h IackOut true = refl
settling_short version p h IackOut false = refl
settling_short version p h Dtack true = refl
settling_short version p h Dtack false = refl

checked : (b : Bool) (r : Refused) (rest : Judgement) → is_short r ≡ true → are_short rest ≡ true → are_short (check b r rest) ≡ true
checked true r rest short others = others
checked false r rest short others = short

judged_short : (version : Version) (p : Plan) (h : List Edge) (e : Edge) (rest : Judgement) → are_short rest ≡ true → are_short (judged version p h e rest) ≡ true
judged_short version p h e rest others =
    let r = readings p h e.driver in
    let row = rule version r e.wire e.fall e.value in
    let last = checked (settled version p h e) (NotSettled (settling version p h e.wire e.fall).0) rest (settling_short version p h e.wire e.fall) others in
    let ruled = checked row.1 (Rule row.0) _ (rule_short version r e.wire e.fall e.value) last in
    checked (holds (driver_guard p e)) NoSuchDriver _ refl (checked (holds (state_guard (r.own e.wire) e.fall)) AlreadyThere _ refl ruled)

-- each refusal but for the end of the trace
pub short_but_full : (version : Version) (p : Plan) (h : List Edge) (e : Edge) (refused : Refused) → verdict_but_full version p h e ≡ Err refused → is_short refused ≡ true
short_but_full version p h e refused is = subst (λ v. are_short v ≡ true) is (judged_short version p h e (Ok tt) refl)

-- each refusal
pub short : (b : State) (e : Edge) (refused : Refused) → verdict b e ≡ Err refused → is_short refused ≡ true
short b e refused is =
    let full = check (holds (room_guard b)) TraceFull (Ok tt) in
    subst (λ v. are_short v ≡ true) is (judged_short b.version b.plan b.history e full (checked (holds (room_guard b)) TraceFull (Ok tt) refl refl))

-- an edge whose parts are written once more, as the arms of a step do
pub written : (e : Edge) (d : Driver) (w : Wire) (fall : Bool) → d ≡ e.driver → w ≡ e.wire → fall ≡ e.fall → (record e { driver = d; wire = w; fall = fall }) ≡ e
written e d w fall by on way = λ i. record e { driver = by i; wire = on i; fall = way i }

-- the outcome of an edge by the verdict on the same edge
module _ (version : Version) (p : Plan) (h : List Edge) (n e : Edge) (same : n ≡ e) (r : Judgement) (judged : r ≡ verdict_but_full version p h n) where
  verdict_is : verdict_but_full version p h e ≡ r
  verdict_is = ap (λ (x : Edge). verdict_but_full version p h x) (sym same) ∙ sym judged

  pub taken : (b : BusState) → r ≡ Ok tt → IsStateOf version p (n ∷ h) b → IsStateOf version p (kept_but_full version p h e) b
  taken b is after = subst (λ k. IsStateOf version p k b) (ap (λ (x : Edge). x ∷ h) same ∙ sym (ap (λ v. if is_ok v then e ∷ h else h) (verdict_is ∙ is))) after

  module _ (refused : Refused) (is : r ≡ Err refused) where
    pub left : (b : BusState) → IsStateOf version p h b → IsStateOf version p (kept_but_full version p h e) b
    left b before = subst (λ k. IsStateOf version p k b) (sym (ap (λ v. if is_ok v then e ∷ h else h) (verdict_is ∙ is))) before

    pub refusal : (answer : Result (Option Delivery) Refused) → (is_short refused ≡ true → answer ≡ Err refused) → answer ≡ answer_but_full version p h e
    refusal answer says = says (short_but_full version p h e refused (verdict_is ∙ is)) ∙ sym (ap (λ v. with_delivery v (delivery p h e)) (verdict_is ∙ is))
