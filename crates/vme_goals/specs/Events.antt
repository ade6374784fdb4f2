-- Events: situations that an accepted edge brings about, and their names. (Which situations have a
-- name is this project's profile.)
use Rattle.std.specs.Prelude.{ℕ, Bool, true, List, [], ◌∷◌, codes}
use Rattle.std.specs.List.{position_or_len}
use denote.Enum.Bare.{sameb}
use Rattle.vme_goals.specs.contracts.events.Event.{the_type}
use Rattle.vme_model.specs.declared.signals.Version.{Version}
use Rattle.vme_model.specs.Signals.{is_two}
use Rattle.vme_goals.specs.declared.events.Event.{Event}
use Rattle.vme_goals.specs.declared.events.Event.TheVariants as event

-- all events, in the order in which they are reported
unfoldable pub all_events : List Event
all_events =
    event.GrantPassed ∷ event.LateRequest ∷ event.Overtaken ∷ event.EarlyRelease ∷ event.Overlap
    ∷ event.FullBurst ∷ event.BusClear ∷ event.Rivals ∷ event.Delivery ∷ event.IackPassed
    ∷ event.AnsweredAgain ∷ event.Spurious ∷ event.BusError ∷ event.Withdrawn
    ∷ event.GrantTimeout ∷ []

-- whether two events are the same
abbrev pub is_same_event : Event → Event → Bool
is_same_event = sameb the_type

-- the place of an event among all events, from 0
unfoldable pub event_index : Event → ℕ
event_index v = position_or_len (is_same_event v) all_events

-- the name of each event
abbrev pub event_text : Event → List ℕ
event_text event.GrantPassed = codes "grant-passed"
event_text event.LateRequest = codes "late-request"
event_text event.Overtaken = codes "overtaken"
event_text event.EarlyRelease = codes "early-release"
event_text event.Overlap = codes "overlap"
event_text event.FullBurst = codes "full-burst"
event_text event.BusClear = codes "bus-clear"
event_text event.Rivals = codes "rivals"
event_text event.Delivery = codes "delivery"
event_text event.IackPassed = codes "iack-passed"
event_text event.AnsweredAgain = codes "answered-again"
event_text event.Spurious = codes "spurious"
event_text event.BusError = codes "bus-error"
event_text event.Withdrawn = codes "withdrawn"
event_text event.GrantTimeout = codes "grant-timeout"

-- a request is withdrawn, and a grant timed out, in the second version alone
abbrev pub has_event : Version → Event → Bool
has_event version event.Withdrawn = is_two version
has_event version event.GrantTimeout = is_two version
has_event version _ = true
