-- What the edges of a walk are once it has ended that seeks an event. (Profile.)
use Rattle.std.specs.Prelude.{◌≡◌, ◌&&◌, ◌++◌, ◌∷◌, ℕ, Bool, true, false, Option, List, [], length}
use Rattle.vme_model.specs.declared.signals.Driver.{Driver}
use Rattle.vme_model.specs.declared.signals.Edge.{Edge}
use Rattle.vme_model.specs.Plan.{Plan}
use Rattle.vme_seeds.specs.Walks.{Walk}
use Rattle.vme_goals.specs.declared.events.Event.{Event}
use Rattle.vme_goals.specs.declared.goals.Aim.TheVariants as aim
use Rattle.vme_goals.specs.declared.goals.Goal.{Goal}
use Rattle.vme_goals.specs.Goals.{counts, is_due}
use Rattle.vme_events.specs.Events.{comes}
use Rattle.vme_drive.specs.declared.seeks.Ending.{Ending}
use Rattle.vme_drive.specs.declared.seeks.Ending.TheVariants.{Over, Came, Missed}
use Rattle.vme_drive.specs.Seeking.{Ended, sought}

-- the edge that was made after these counts, and brings the event
abbrev pub brings_after : Plan → Goal → Event → List Edge → Edge → Bool
brings_after p g v before e =
    (counts g.driver e.driver && is_due g (length before)) && comes p before e v

-- no edge of the history does, each after the edges before it
abbrev pub NoneBrings : Plan → Goal → Event → List Edge → Type 0
NoneBrings p g v h = (later before : List Edge) (e : Edge) → h ≡ later ++ (e ∷ before)
    → brings_after p g v before e ≡ false

-- the last edge does, and none before it does
pub record LastBrings (p : Plan) (g : Goal) (v : Event) (h : List Edge) : Type 0 where
  pub last : Edge
  pub before : List Edge
  pub edges : h ≡ last ∷ before
  pub brings : brings_after p g v before last ≡ true
  pub first : NoneBrings p g v before

-- what is so of the edges, by how the walk ended: no edge is missed if an event is sought
abbrev pub IsSo : Plan → Goal → Event → List Edge → Ending → Type 0
IsSo p g v h Over = NoneBrings p g v h
IsSo p g v h Came = LastBrings p g v h
IsSo p g v h (Missed e) = ⊥

abbrev pub IsSoOf : Plan → Goal → Event → Ended → Type 0
IsSoOf p g v r = IsSo p g v r.walk.state.history r.ending

-- an event, of one driver or of any, and how many edges there are before it at least
abbrev pub event_goal : Event → Option Driver → ℕ → Goal
event_goal v only after = record { aim = aim.Event v; driver = only; after = after }

-- it is so of each walk that has no edge yet and makes so many at most
abbrev pub EndsWithItsEvent : Type 0
EndsWithItsEvent = (v : Event) (only : Option Driver) (after n : ℕ) (w : Walk)
    → w.state.history ≡ []
    → IsSoOf w.state.plan (event_goal v only after) v (sought (event_goal v only after) n w)
