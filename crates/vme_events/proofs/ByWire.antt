-- `events_of`: the situations that an edge brings about are those of its wire and direction.
use Rattle.std.proofs.Common.{◌≡◌, ◌∙◌, Bool, true, false, List, [], ◌∷◌, ◌++◌, Option, refl, ap}
use Rattle.std.specs.Prelude.{◌&&◌, if◌then◌else◌}
use Rattle.vme_model.specs.declared.signals.Driver.{Driver}
use Rattle.vme_model.specs.declared.signals.Wire.{Wire}
use Rattle.vme_model.specs.declared.signals.Wire.TheVariants.{Bg, Bclr, Iack, Berr, Br, BgOut, Bbsy, Addr, AddressStrobe, DataStrobe, Irq, IackOut, Dtack}
use Rattle.vme_model.specs.declared.signals.Cycle.{Cycle}
use Rattle.vme_model.specs.declared.signals.Edge.{Edge}
use Rattle.vme_model.specs.declared.boards.IrqKind.TheVariants.{Roak}
use Rattle.vme_model.specs.Signals.{is_acknowledge}
use Rattle.vme_model.specs.Plan.{Plan}
use Rattle.vme_model.specs.History.{line, shown, served_since_request}
use Rattle.vme_goals.specs.declared.events.Event.{Event}
use Rattle.vme_goals.specs.declared.events.Event.TheVariants as event
use Rattle.vme_goals.specs.Events.{all_events}
use Rattle.vme_events.specs.Events.{events_of, is_access, overtakes}
use Rattle.vme_events.specs.Brought.{at_fall, at_rise, when}

abbrev edge : Driver → Wire → Bool → Option Cycle → Edge
edge d w fall v = record { driver = d; wire = w; fall = fall; value = v }

-- two tests, one after the other
two : (a b : Bool) (x y : Event) → (if a then x ∷ (if b then y ∷ [] else []) else (if b then y ∷ [] else [])) ≡ when a x ++ when b y
two true b x y = refl
two false b x y = refl

fall_brings : (p : Plan) (h : List Edge) (d : Driver) (w : Wire) (v : Option Cycle) → events_of p h (edge d w true v) ≡ at_fall p h d w
unfolding all_events
fall_brings p h d (Bg level) v = refl
fall_brings p h d Bclr v = refl
fall_brings p h d Iack v = refl
fall_brings p h d Berr v = two (is_acknowledge (shown p h)) (is_access (shown p h)) event.Spurious event.BusError
fall_brings p h d Br v = refl
fall_brings p h d BgOut v = refl
fall_brings p h d Bbsy v = two (overtakes p h d) (line p h AddressStrobe) event.Overtaken event.Overlap
fall_brings p h d Addr v = refl
fall_brings p h d AddressStrobe v = refl
fall_brings p h d DataStrobe v = refl
fall_brings p h d Irq v = refl
fall_brings p h d IackOut v = refl
fall_brings p h d Dtack v = two (is_acknowledge (shown p h)) (is_acknowledge (shown p h) && served_since_request p h d Roak) event.Delivery event.AnsweredAgain

rise_brings : (p : Plan) (h : List Edge) (d : Driver) (w : Wire) (v : Option Cycle) → events_of p h (edge d w false v) ≡ at_rise p h d w
unfolding all_events
rise_brings p h d (Bg level) v = refl
rise_brings p h d Bclr v = refl
rise_brings p h d Iack v = refl
rise_brings p h d Berr v = refl
rise_brings p h d Br v = refl
rise_brings p h d BgOut v = refl
rise_brings p h d Bbsy v = refl
rise_brings p h d Addr v = refl
rise_brings p h d AddressStrobe v = refl
rise_brings p h d DataStrobe v = refl
rise_brings p h d Irq v = refl
rise_brings p h d IackOut v = refl
rise_brings p h d Dtack v = refl

pub brought_by_fall : (p : Plan) (h : List Edge) (e : Edge) → e.fall ≡ true → events_of p h e ≡ at_fall p h e.driver e.wire
brought_by_fall p h e is = ap (λ fall. events_of p h (edge e.driver e.wire fall e.value)) is ∙ fall_brings p h e.driver e.wire e.value

pub brought_by_rise : (p : Plan) (h : List Edge) (e : Edge) → e.fall ≡ false → events_of p h e ≡ at_rise p h e.driver e.wire
brought_by_rise p h e is = ap (λ fall. events_of p h (edge e.driver e.wire fall e.value)) is ∙ rise_brings p h e.driver e.wire e.value
