-- Which situations an accepted edge brings about: each is a test of the edge, and of the history
-- before it. (The words are those of chapters 2 to 4.)
use Rattle.std.specs.Prelude.{◌==◌, ◌&&◌, ◌+◌, ◌-◌, ℕ, Bool, true, false, not, if◌then◌else◌, Option, Some, List, [], ◌∷◌, length, nat_lt, filter}
use Rattle.std.specs.List.{list_any}
use Rattle.std.specs.Option.{option_map_or, option_and_then}
use Rattle.vme_model.specs.declared.boards.Release.{Release}
use Rattle.vme_model.specs.declared.boards.Release.TheVariants.{Done, Request}
use Rattle.vme_model.specs.declared.boards.IrqKind.TheVariants.{Roak}
use Rattle.vme_model.specs.declared.signals.Driver.{Driver}
use Rattle.vme_model.specs.declared.signals.Driver.TheVariants.{Slot}
use Rattle.vme_model.specs.declared.signals.Wire.{Wire}
use Rattle.vme_model.specs.declared.signals.Wire.TheVariants.{Bclr, Berr, Br, BgOut, Bbsy, AddressStrobe, Irq, IackOut, Dtack}
use Rattle.vme_model.specs.declared.signals.Cycle.{Cycle}
use Rattle.vme_model.specs.declared.signals.Cycle.TheVariants.{Access}
use Rattle.vme_model.specs.declared.signals.Edge.{Edge}
use Rattle.vme_model.specs.Signals.{is_same_driver, is_same_wire, is_fall_of, is_grant_wire, is_acknowledge}
use Rattle.vme_model.specs.Plan.{Plan, board_of, up_to}
use Rattle.vme_model.specs.History.{drive, line, shown, served_since_request, cycles}
use Rattle.vme_model.specs.Readings.{pending}
use Rattle.vme_goals.specs.declared.events.Event.{Event}
use Rattle.vme_goals.specs.declared.events.Event.TheVariants as event
use Rattle.vme_goals.specs.Events.{all_events}

-- the edge is a fall of such a wire, and a rise
abbrev pub falls : Wire → Edge → Bool
falls w e = e.fall && is_same_wire e.wire w

abbrev pub rises : Wire → Edge → Bool
rises w e = not e.fall && is_same_wire e.wire w

-- an access, to whatever slot (chapter 2)
abbrev pub is_access : Option Cycle → Bool
is_access (Some (Access s)) = true
is_access _ = false

-- the place of the driver's last fall of the wire, from 1; 0 if it made none
abbrev pub fell_at : List Edge → Driver → Wire → ℕ
fell_at [] d w = 0
fell_at (e ∷ h) d w = if is_fall_of d w e then length h + 1 else fell_at h d w

-- the slot's request is low, and was made before that of the driver
abbrev pub asked_before : List Edge → Driver → ℕ → Bool
asked_before h d s =
    drive h (Slot s) Br && nat_lt (fell_at h (Slot s) Br) (fell_at h d Br)

-- the driver's own request is low, as it is when it takes the bus, and a slot's is older
abbrev pub overtakes : Plan → List Edge → Driver → Bool
overtakes p h d = drive h d Br && list_any (asked_before h d) (up_to p.slots)

-- with one more cycle the tenure has as many as a burst above 1 (RWD, chapter 3)
abbrev pub is_filled : ℕ → Release → Bool
is_filled cycles (Done burst) = nat_lt 1 burst && (cycles == burst - 1)
is_filled cycles Request = false

abbrev pub fills_burst : Plan → List Edge → Driver → Bool
fills_burst p h d =
    option_map_or (λ q. is_filled (cycles h d) q.release)
    (option_and_then (λ r. r.requester) (board_of p d)) false

-- a slot other than the driver's is pending at the level (chapter 4)
abbrev pub is_rival : Plan → List Edge → Driver → ℕ → ℕ → Bool
is_rival p h d level s = not (is_same_driver (Slot s) d) && pending p h s level

abbrev pub has_rival : Plan → List Edge → Driver → Bool
has_rival p h d =
    option_map_or (λ i. list_any (is_rival p h d i.level) (up_to p.slots))
    (option_and_then (λ r. r.interrupter) (board_of p d)) false

-- The table: what the edge is, and what the wires are before it.
abbrev pub comes : Plan → List Edge → Edge → Event → Bool
-- the board hands a grant on that it does not want (chapter 3)
comes p h e event.GrantPassed = falls BgOut e
-- the grant of the bus that is free has gone by the board (chapter 3)
comes p h e event.LateRequest = falls Br e && drive h e.driver BgOut && not (line p h Bbsy)
-- another board waits for longer (chapter 3)
comes p h e event.Overtaken = falls Bbsy e && overtakes p h e.driver
-- the owner's last cycle is not over (chapter 3)
comes p h e event.EarlyRelease = rises Bbsy e && drive h e.driver AddressStrobe
-- an earlier owner's cycle still runs (chapter 3)
comes p h e event.Overlap = falls Bbsy e && line p h AddressStrobe
-- the last cycle of a burst begins (RWD, chapter 3)
comes p h e event.FullBurst = falls AddressStrobe e && fills_burst p h e.driver
-- the owner is asked to make room (PRI, chapter 3)
comes p h e event.BusClear = falls Bclr e
-- two boards ask for one level (chapter 4)
comes p h e event.Rivals = falls Irq e && has_rival p h e.driver
-- an acknowledge is answered (chapter 4)
comes p h e event.Delivery = falls Dtack e && is_acknowledge (shown p h)
-- the board hands an acknowledge on (chapter 4)
comes p h e event.IackPassed = falls IackOut e
-- the board has answered one since its last request (chapter 4)
comes p h e event.AnsweredAgain =
    falls Dtack e && is_acknowledge (shown p h) && served_since_request p h e.driver Roak
-- nobody answers the acknowledge (chapter 4)
comes p h e event.Spurious = falls Berr e && is_acknowledge (shown p h)
-- nobody answers the access (chapter 2)
comes p h e event.BusError = falls Berr e && is_access (shown p h)
-- the board has not got the bus (profile)
comes p h e event.Withdrawn = rises Br e && not (drive h e.driver Bbsy)
-- nobody has taken the grant (profile)
comes p h e event.GrantTimeout = not e.fall && is_grant_wire e.wire && not (line p h Bbsy)

-- the situations that an edge brings about, in their order
abbrev pub events_of : Plan → List Edge → Edge → List Event
events_of p h e = filter (comes p h e) all_events
