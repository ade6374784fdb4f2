-- The orders in which the changes of a sample can have been made: those of one line or pin in the
-- order of the capture. Lists of places, changes and sightings have the newest first.
use Rattle.std.specs.Prelude.{◌≡◌, ◌<◌, ◌-◌, ◌^◌, ◌++◌, ℕ, true, List, [], ◌∷◌, Some, length, option_map}
use Rattle.std.specs.List.{slice_get}
use Rattle.vme_model.specs.Plan.{Plan}
use Rattle.vme_model.specs.Verdict.{IsLegal}
use Rattle.vme_model.specs.declared.signals.Edge.{Edge}
use Rattle.vme_model.specs.declared.signals.Version.{Version}
use Rattle.vme_captures.specs.declared.signals.Change.{Change}
use Rattle.vme_captures.specs.declared.signals.Pin.{Pin}
use Rattle.vme_captures.specs.Possible.{AgreeEach, Sighting, sightings}
use Rattle.vme_standings.specs.declared.standings.Drivers.{Drivers}
use Rattle.vme_standings.specs.declared.standings.Probed.{Probed}
use Rattle.vme_standings.specs.declared.standings.Standings.{Standings}
use Rattle.vme_standings.specs.Covers.{Among, Covers}
use Rattle.vme_standings.specs.Hidden.{HasMoved}
use Rattle.vme_samples.specs.declared.places.Places.{Places}
use Rattle.vme_samples.specs.declared.samples.SeenChange.{SeenChange}
use Rattle.vme_samples.specs.Places.{has_place, with}
use Rattle.vme_samples.specs.Samples.{comes_next}
use Rattle.vme_samples.specs.Ways.{AreWays, Gathered, Known}

-- the set of these places
abbrev pub set_of : List ℕ → Places
set_of [] = record { bits = 0 }
set_of (i ∷ places) = with (set_of places) i

-- all places of the sample
abbrev pub all_of : List SeenChange → Places
all_of sample = record { bits = 2 ^ length sample - 1 }

-- The changes are those at the places. Each was not taken before, and of its line or pin no earlier
-- one of the sample was left then.
abbrev pub AreInOrder : List SeenChange → List ℕ → List Change → Type 0
AreInOrder sample [] [] = Unit {0}
AreInOrder sample (i ∷ places) (c ∷ changes) =
    AreInOrder sample places changes × (comes_next sample (set_of places) i ≡ true)
    × (option_map (λ s. s.change) (slice_get sample i) ≡ Some c)
AreInOrder _ _ _ = ⊥

-- and they are all changes of the sample
pub record IsOrderOf (sample : List SeenChange) (places : List ℕ)
    (changes : List Change) : Type 0 where
  pub ordered : AreInOrder sample places changes
  pub whole : (i : ℕ) → i < length sample → has_place (set_of places) i ≡ true

-- a legal list of edges, those of g and then those of h, shows the changes of the sample in some
-- order by those of h
pub record ShowsIn (version : Version) (p : Plan) (pins : List Pin) (g h : List Edge)
    (sample : List SeenChange) : Type 0 where
  pub places : List ℕ
  pub changes : List Change
  pub order : IsOrderOf sample places changes
  pub legal : IsLegal version p (h ++ g)
  pub agree : AgreeEach changes (sightings p pins g h)

-- The changes of these samples, each of which is made in some order. The newest sample is the
-- first.
abbrev pub AreOrdersOf : List (List SeenChange) → List Change → Type 0
AreOrdersOf [] changes = changes ≡ []
AreOrdersOf (sample ∷ earlier) changes =
    (places : List ℕ) × (here : List Change) × (before : List Change)
    × IsOrderOf sample places here × AreOrdersOf earlier before × (changes ≡ here ++ before)

-- what is known, with the edges that no probe sees, covers the bus
abbrev pub CoversHidden : Plan → List Pin → Probed → List Edge → Standings → Type 0
CoversHidden p pins probed h st =
    (hidden : Standings) → HasMoved p probed st hidden → Covers p pins h hidden

-- sample by sample, what is known first leads to what is known last
abbrev pub FollowSamples : Plan → Probed → Standings → List (List SeenChange) → Standings → Type 0
FollowSamples p probed first [] last = last ≡ first
FollowSamples p probed first (sample ∷ earlier) last =
    (old : Standings) × (known : Known) × FollowSamples p probed first earlier old
    × AreWays p probed old sample known × (0 < length sample)
    × Gathered p probed sample known (all_of sample) (length sample) (Some last)

-- whoever made the change at each of the places is among those who may have made it
abbrev pub AreNamed : (ℕ → Drivers) → List ℕ → List Sighting → Type 0
AreNamed by [] [] = Unit {0}
AreNamed by (i ∷ places) (s ∷ seen) = Among (by i) s.driver × AreNamed by places seen
AreNamed by _ _ = ⊥
