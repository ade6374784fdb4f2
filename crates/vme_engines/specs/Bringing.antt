-- What the edges of a walk are once it has ended that seeks an event. (Profile.)
use Rattle.std.specs.Prelude.{◌≡◌, ◌++◌, ◌∷◌, ℕ, true, false, List, []}
use Rattle.vme_model.specs.declared.signals.Edge.{Edge}
use Rattle.vme_model.specs.Plan.{Plan}
use Rattle.vme_seeds.specs.Walks.{Walk}
use Rattle.vme_goals.specs.declared.events.Event.{Event}
use Rattle.vme_goals.specs.declared.goals.Goal.TheVariants as goal
use Rattle.vme_events.specs.Events.{comes}
use Rattle.vme_engines.specs.declared.seeks.Ending.{Ending}
use Rattle.vme_engines.specs.declared.seeks.Ending.TheVariants.{Over, Came, Missed}
use Rattle.vme_engines.specs.Seeking.{Ended, sought}

-- no edge of the history brings the event, each after the edges before it
abbrev pub NoneBrings : Plan → Event → List Edge → Type 0
NoneBrings p v h = (later before : List Edge) (e : Edge) → h ≡ later ++ (e ∷ before)
    → comes p before e v ≡ false

-- the last edge brings the event, and none before it does
pub record LastBrings (p : Plan) (v : Event) (h : List Edge) : Type 0 where
  pub last : Edge
  pub before : List Edge
  pub edges : h ≡ last ∷ before
  pub brings : comes p before last v ≡ true
  pub first : NoneBrings p v before

-- what is so of the edges, by how the walk ended: no edge is missed where an event is sought
abbrev pub IsSo : Plan → Event → List Edge → Ending → Type 0
IsSo p v h Over = NoneBrings p v h
IsSo p v h Came = LastBrings p v h
IsSo p v h (Missed e) = ⊥

abbrev pub IsSoOf : Plan → Event → Ended → Type 0
IsSoOf p v r = IsSo p v r.walk.state.history r.ending

-- it is so of each walk that has no edge yet and makes so many at most
abbrev pub EndsWithItsEvent : Type 0
EndsWithItsEvent = (v : Event) (n : ℕ) (w : Walk) → w.state.history ≡ []
    → IsSoOf w.state.plan v (sought (goal.Event v) n w)
