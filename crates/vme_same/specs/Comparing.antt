-- When two traces are the same but for free swaps, and what differs otherwise. (The definitions are
-- this project's own.) One edge of the second trace after another comes to the front of what is
-- left of the first one, and is taken out of it. Edges of the first trace have their numbers in it.
-- Edges that were taken, those that are left and those before an edge have the newest one first.
use Rattle.std.specs.Prelude.{◌≡◌, ◌≢◌, ◌⊎◌, ◌<◌, ◌≤◌, ◌+◌, ◌++◌, ◌∷◌, [], ℕ, true, false, List, length, Option, Some, None}
use Rattle.vme_model.specs.declared.refusals.Refused.{Refused}
use Rattle.vme_model.specs.declared.signals.Driver.{Driver}
use Rattle.vme_model.specs.declared.signals.Version.{Version}
use Rattle.vme_model.specs.declared.signals.Edge.{Edge}
use Rattle.vme_model.specs.Plan.{Plan}
use Rattle.vme_model.specs.Numbered.{Numbered, edges_in, numbered}
use Rattle.vme_swaps.specs.Swaps.{IsFree}
use Rattle.vme_reading.specs.Refusals.{first_refusal}
use Rattle.vme_reading.specs.Outcomes.{bench}
use Rattle.vme_swaps.specs.declared.stops.Stop.{Stop}
use Rattle.vme_swaps.specs.declared.stops.Stop.TheVariants.{Far}
use Rattle.vme_swaps.specs.Stops.{Meets, most_passed}
use Rattle.vme_same.specs.declared.comparisons.Why.{Why}
use Rattle.vme_same.specs.declared.comparisons.Why.TheVariants.{Missing, Stops}
use Rattle.vme_same.specs.declared.comparisons.Comparison.{Comparison}
use Rattle.vme_same.specs.declared.comparisons.Comparison.TheVariants.{Same, Refuses, OtherVersion, Differs, Leaves}

-- none of these is the edge e
abbrev pub IsMissing : Edge → Numbered → Type 0
IsMissing e [] = Unit {0}
IsMissing e ((n, a) ∷ k) = (a ≢ e) × IsMissing e k

-- none of these is an edge of the driver d
abbrev pub HasNoneOf : Driver → Numbered → Type 0
HasNoneOf d [] = Unit {0}
HasNoneOf d ((n, a) ∷ k) = (a.driver ≢ d) × HasNoneOf d k

-- the first edge of the driver d of what is left; None if it has none
abbrev pub IsFirstOf : Driver → Numbered → Option (ℕ × Edge) → Type 0
IsFirstOf d left None = HasNoneOf d left
IsFirstOf d left (Some (n, a)) =
    (behind : Numbered) × (before : Numbered) × (left ≡ behind ++ (n, a) ∷ before)
    × (a.driver ≡ d) × HasNoneOf d before

-- the first edge of what is left that is e, and the edges before and behind it
pub record IsPlace (e : Edge) (left : Numbered) : Type 0 where
  pub behind : Numbered
  pub number : ℕ
  pub before : Numbered
  pub split : left ≡ behind ++ (number, e) ∷ before
  pub first : IsMissing e before

-- The edge e goes back over these, behind the edges that were taken: it is free with each, where it
-- stands at that time, and nothing stops it. Or it meets the first one with which it is not free.
abbrev pub GoesBack : Version → Plan → Edge → Numbered → Numbered → Option Stop → Type 0
GoesBack v p e taken [] stop = stop ≡ None
GoesBack v p e taken ((n, a) ∷ before) stop =
    let h = edges_in (before ++ taken) in
    (IsFree v p h a e × GoesBack v p e taken before stop)
    ⊎ (¬ IsFree v p h a e × (met : Stop) × (stop ≡ Some met) × Meets v p e n a h met)

-- why the edge e does not come to the front of what is left
abbrev pub StaysBack : Version → Plan → Edge → Numbered → Numbered → Why → Type 0
StaysBack v p e taken left Missing = IsMissing e left
StaysBack v p e taken left (Stops Far) =
    (place : IsPlace e left) × (most_passed < length place.before)
StaysBack v p e taken left (Stops met) =
    (place : IsPlace e left) × (length place.before ≤ most_passed)
    × GoesBack v p e taken place.before (Some met)

-- the second trace had n edges: nothing is left, or this is the first edge that is
abbrev pub IsOver : ℕ → Numbered → Comparison → Type 0
IsOver n left found =
    ((left ≡ []) × (found ≡ Same n))
    ⊎ ((behind : Numbered) × (m : ℕ) × (a : Edge) × (left ≡ behind ++ (m, a) ∷ [])
    × (found ≡ Leaves m a))

-- What is found if these edges of the second trace come next, behind n others. With the edge that
-- stays back comes the first edge of its driver that is left.
abbrev pub Compares :
    Version → Plan → Numbered → Numbered → ℕ → List Edge → Comparison → Type 0
Compares v p taken left n [] found = IsOver n left found
Compares v p taken left n (e ∷ es) found =
    ((why : Why) × (own : Option (ℕ × Edge)) × StaysBack v p e taken left why
    × IsFirstOf e.driver left own × (found ≡ Differs (n + 1) e why own))
    ⊎ ((place : IsPlace e left) × (length place.before ≤ most_passed)
    × GoesBack v p e taken place.before None
    × Compares v p ((place.number, e) ∷ taken) (place.behind ++ place.before) (n + 1) es found)

-- what is found of traces of the versions v and w without a refused edge
abbrev pub IsOutcome :
    Plan → Version → Version → Numbered → List Edge → Comparison → Type 0
IsOutcome p v w k fs found =
    ((v ≢ w) × (found ≡ OtherVersion)) ⊎ ((v ≡ w) × Compares v p [] k 0 fs found)

-- What is found of two traces, with the first refusal of each. A refusal is reported, of the first
-- trace if both have one.
abbrev pub IsFound :
    Plan → Version → Version → List Edge → List Edge
    → Option (ℕ × Refused) → Option (ℕ × Refused) → Comparison → Type 0
IsFound p v w es fs (Some (n, refused)) other found = found ≡ Refuses true n refused
IsFound p v w es fs None (Some (n, refused)) found = found ≡ Refuses false n refused
IsFound p v w es fs None None found = IsOutcome p v w (numbered (bench p v) es) fs found

-- what is found of a trace of the version v and one of w, whose edges are es and fs
abbrev pub IsComparison :
    Plan → Version → Version → List Edge → List Edge → Comparison → Type 0
IsComparison p v w es fs found =
    IsFound p v w es fs (first_refusal 1 (bench p v) es) (first_refusal 1 (bench p w) fs) found
