-- The situations that an edge brings about, by its wire.
use Rattle.std.specs.Prelude.{◌&&◌, ◌++◌, Bool, if◌then◌else◌, not, List, [], ◌∷◌}
use Rattle.vme_model.specs.declared.boards.IrqKind.TheVariants.{Roak}
use Rattle.vme_model.specs.declared.signals.Driver.{Driver}
use Rattle.vme_model.specs.declared.signals.Wire.{Wire}
use Rattle.vme_model.specs.declared.signals.Wire.TheVariants.{Bg, Bclr, Berr, Br, BgOut, Bbsy, AddressStrobe, Irq, IackOut, Dtack}
use Rattle.vme_model.specs.declared.signals.Edge.{Edge}
use Rattle.vme_model.specs.Signals.{is_acknowledge}
use Rattle.vme_model.specs.Plan.{Plan}
use Rattle.vme_model.specs.History.{drive, line, shown, served_since_request}
use Rattle.vme_goals.specs.declared.events.Event.{Event}
use Rattle.vme_goals.specs.declared.events.Event.TheVariants as event
use Rattle.vme_events.specs.Events.{fills_burst, has_rival, is_access, overtakes}

-- the situation, if the test holds
abbrev pub when : Bool → Event → List Event
when holds e = if holds then e ∷ [] else []

abbrev pub at_fall : Plan → List Edge → Driver → Wire → List Event
at_fall p h d Bclr = event.BusClear ∷ []
at_fall p h d Berr =
    when (is_acknowledge (shown p h)) event.Spurious ++ when (is_access (shown p h)) event.BusError
at_fall p h d Br = when (drive h d BgOut && not (line p h Bbsy)) event.LateRequest
at_fall p h d BgOut = event.GrantPassed ∷ []
at_fall p h d Bbsy =
    when (overtakes p h d) event.Overtaken ++ when (line p h AddressStrobe) event.Overlap
at_fall p h d AddressStrobe = when (fills_burst p h d) event.FullBurst
at_fall p h d Irq = when (has_rival p h d) event.Rivals
at_fall p h d IackOut = event.IackPassed ∷ []
at_fall p h d Dtack =
    when (is_acknowledge (shown p h)) event.Delivery
    ++ when (is_acknowledge (shown p h) && served_since_request p h d Roak) event.AnsweredAgain
at_fall p h d w = []

abbrev pub at_rise : Plan → List Edge → Driver → Wire → List Event
at_rise p h d (Bg level) = when (not (line p h Bbsy)) event.GrantTimeout
at_rise p h d Br = when (not (drive h d Bbsy)) event.Withdrawn
at_rise p h d Bbsy = when (drive h d AddressStrobe) event.EarlyRelease
at_rise p h d w = []
