-- What is known of the bus behind the changes of a sample, and what is written of them. The changes
-- of a sample are in the order of the capture.
use Rattle.std.specs.Prelude.{◌≡◌, ◌+◌, ◌-◌, ◌^◌, ◌||◌, ◌++◌, [], ℕ, zero, suc, Bool, true, false, List, Option, Some, None, length, min}
use Rattle.std.specs.List.{slice_get}
use Rattle.vme_model.specs.declared.signals.Version.{Version}
use Rattle.vme_model.specs.Plan.{Plan}
use Rattle.vme_standings.specs.declared.standings.Drivers.{Drivers}
use Rattle.vme_standings.specs.declared.standings.Standings.{Standings}
use Rattle.vme_standings.specs.Standings.{Drive}
use Rattle.vme_samples.specs.declared.makers.Makers.{Makers}
use Rattle.vme_samples.specs.declared.places.Places.{Places}
use Rattle.vme_samples.specs.declared.samples.SeenChange.{SeenChange}
use Rattle.vme_samples.specs.Makers.{by_at}
use Rattle.vme_samples.specs.Places.{has_place}
use Rattle.vme_samples.specs.Samples.{comes_next}
use Rattle.vme_samples.specs.Ways.{AreMakers, AreWays, Gathered, IsFurthest, Known as Ways, hidden_behind}
use Rattle.vme_probe.specs.declared.judging.Known.{Known}
use Rattle.vme_probe.specs.Lines.{change_line, impossible_line}
use Rattle.vme_probe.specs.Stopped.{is_refused_by_ours, refused_text}

-- ---- what is written of the changes

-- the line of a change that is in the set, with those who may have made it
abbrev pub placed_line : Option SeenChange → Bool → Drivers → List ℕ
placed_line (Some s) true d = change_line s.moment s.change d
placed_line _ _ d = []

-- those of the first n changes
abbrev pub placed_lines : List SeenChange → Places → Makers → ℕ → List ℕ
placed_lines sample set makers zero = []
placed_lines sample set makers (suc n) =
    placed_lines sample set makers n
    ++ placed_line (slice_get sample n) (has_place set n) (by_at makers n)

-- what stands in the way of a change, if it may come next behind the set
abbrev pub Refuses :
    Plan → Version → Standings → Option SeenChange → Bool → List ℕ → Bool → Type 0
Refuses p v hidden (Some s) true text ours =
    (owners : Drivers) × Drive p s.change.signal owners
    × (text ≡ refused_text p v hidden s.moment s.change owners)
    × (ours ≡ is_refused_by_ours p v hidden s.change owners)
Refuses p v hidden _ _ text ours = (text ≡ []) × (ours ≡ false)

-- of each of the first n changes, and whether some of that is a condition of our own rules alone
abbrev pub RefusesFirst :
    Plan → Version → Standings → List SeenChange → Places → ℕ → List ℕ → Bool → Type 0
RefusesFirst p v hidden sample set zero text ours = (text ≡ []) × (ours ≡ false)
RefusesFirst p v hidden sample set (suc n) text ours =
    (before one : List ℕ) × (so_far here : Bool)
    × RefusesFirst p v hidden sample set n before so_far
    × Refuses p v hidden (slice_get sample n) (comes_next sample set n) one here
    × (text ≡ before ++ one) × (ours ≡ (so_far || here))

-- they are appended
pub record AddsRefused (p : Plan) (v : Version) (hidden : Standings) (sample : List SeenChange)
    (set : Places) (n : ℕ) (old new : List ℕ) (ours : Bool) : Type 0 where
  pub text : List ℕ
  pub added : new ≡ old ++ text
  pub refuses : RefusesFirst p v hidden sample set n text ours

-- ---- the whole sample

-- the set of all its places
abbrev pub all_places : List SeenChange → Places
all_places sample = record { bits = 2 ^ length sample - 1 }

-- all changes of a sample may have been made, and then that is known
pub record Samples (p : Plan) (old : Known) (sample : List SeenChange) (new : Known)
    (text : List ℕ) : Type 0 where
  pub ways : Ways
  pub are_ways : AreWays p old.probed old.standings sample ways
  pub behind : Gathered p old.probed sample ways (all_places sample) (length sample)
      (Some new.standings)
  pub makers : Makers
  pub are_makers : AreMakers p old.probed sample ways (all_places sample) (by_at makers)
  pub is : text ≡ placed_lines sample (all_places sample) makers (length sample)
  pub probed : new.probed ≡ old.probed
  pub changes : new.changes ≡ min (old.changes + length sample) (2 ^ 64 - 1)

-- They cannot: as many as can were made, what stands in the way of those that come next is written,
-- and the moment of the sample's first change.
pub record CannotSample (p : Plan) (old : Known) (sample : List SeenChange)
    (text : List ℕ) : Type 0 where
  pub ways : Ways
  pub are_ways : AreWays p old.probed old.standings sample ways
  pub none : Gathered p old.probed sample ways (all_places sample) (length sample) None
  pub furthest : Places
  pub is_furthest : IsFurthest ways (length sample) furthest
  pub hidden : Standings
  pub behind : hidden_behind ways furthest ≡ Some hidden
  pub makers : Makers
  pub are_makers : AreMakers p old.probed sample ways furthest (by_at makers)
  pub first : SeenChange
  pub is_first : slice_get sample 0 ≡ Some first
  pub refused : List ℕ
  pub ours : Bool
  pub refuses : RefusesFirst p old.probed.version hidden sample furthest (length sample)
      refused ours
  pub is : text ≡ (placed_lines sample furthest makers (length sample) ++ refused)
      ++ impossible_line first.moment ours
