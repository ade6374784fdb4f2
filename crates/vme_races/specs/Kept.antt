-- What is kept of the edges so far.
use Rattle.std.specs.Prelude.{◌≡◌, ◌+◌, ◌<◌, ◌≤◌, ◌++◌, ◌∷◌, [], ℕ, true, false, List, length, min, Option, Some, None}
use Rattle.vme_model.specs.declared.signals.Version.{Version}
use Rattle.vme_model.specs.declared.signals.Edge.{Edge}
use Rattle.vme_model.specs.Plan.{Plan}
use Rattle.vme_model.specs.Numbered.{Numbered, edges_in, numbered}
use Rattle.vme_model.specs.Verdict.{kept}
use Rattle.vme_reading.specs.Outcomes.{bench}
use Rattle.vme_races.specs.declared.judge.Reporting.{Reporting}
use Rattle.vme_races.specs.declared.earlier.Earlier.{Earlier}
use Rattle.vme_races.specs.declared.recent.Recent.{Recent}
use Rattle.vme_races.specs.declared.racing.Counts.{Counts}
use Rattle.vme_races.specs.declared.racing.Racing.{Racing}
use Rattle.vme_swaps.specs.declared.stops.Stop.{Stop}
use Rattle.vme_races.specs.declared.walks.Walk.{Walk}
use Rattle.vme_races.specs.Walks.{AreWalks}
use Rattle.vme_swaps.specs.Stops.{most_passed}
use Rattle.vme_races.specs.Kinds.{IsKindOf, IsOnPlan}
use Rattle.vme_races.specs.Lines.{free_in, race_line, race_lines, races_in, waits_in}

-- ---- the last accepted edges

-- these are the last of the numbered edges, the newest first, each with the bus before it
abbrev pub AreHeld : Version → Plan → Numbered → List Earlier → Type 0
AreHeld v p k [] = Unit {0}
AreHeld v p [] (a ∷ others) = ⊥
AreHeld v p ((n, e) ∷ k) (a ∷ others) =
    (a.number ≡ n) × (a.edge ≡ e) × IsKindOf v p (edges_in k) a.before × AreHeld v p k others

-- all of them that can be passed are there
pub record AreLast (v : Version) (p : Plan) (k : Numbered) (now : Recent) : Type 0 where
  pub held : AreHeld v p k now.edges.items
  pub count : length now.edges.items ≡ min most_passed (length k)
  pub more : now.has_more ≡ true → most_passed < length k
  pub whole : now.has_more ≡ false → length k ≤ most_passed

-- all of them that can be passed are there, once one more edge stands behind k
pub record IsReady (v : Version) (p : Plan) (k : Numbered) (now : Recent) : Type 0 where
  pub held : AreHeld v p k now.edges.items
  pub count : length now.edges.items + 1 ≡ min most_passed (length k + 1)
  pub more : now.has_more ≡ true → most_passed < length k + 1
  pub whole : now.has_more ≡ false → length k + 1 ≤ most_passed

-- what holds of all edges of which these are the last
abbrev pub OfLast : Recent → (Version → Plan → Numbered → Type 0) → Type 0
OfLast r P = (v : Version) (p : Plan) (k : Numbered) → AreLast v p k r → P v p k

-- ---- all that is kept

pub record IsCounted (walks : List Walk) (now : Counts) : Type 0 where
  pub races : now.races ≡ races_in walks
  pub waits : now.waits ≡ waits_in walks
  pub free : now.free ≡ free_in walks

-- the edges of a trace of this version were taken in, on a plan, and these are their walks
pub record IsKept (p : Plan) (v : Version) (es : List Edge) (walks : List Walk) (now : Racing)
    : Type 0 where
  pub bus : now.bus ≡ kept (bench p v) es
  pub last : AreLast v p (numbered (bench p v) es) now.recent
  pub passing : IsOnPlan v p now.passing
  pub counts : IsCounted walks now.counts
  pub walked : AreWalks v p (numbered (bench p v) es) walks

-- these edges of a trace were taken in, whatever their walks are
abbrev pub AreTaken : Plan → Version → List Edge → Racing → Type 0
AreTaken p v es now = (walks : List Walk) × IsKept p v es walks now

-- the line of an edge that was taken in, the n-th, by what stops it; None if it is refused
abbrev pub taken_line : ℕ → Edge → Option Stop → List ℕ
taken_line n e None = []
taken_line n e (Some stop) = race_line n e stop

-- one more edge was taken in, and this is its line
abbrev pub Advances :
    Plan → Version → List Edge → List Walk → Edge → List ℕ → Racing → Type 0
Advances p v es walks e line now =
    (others : List Walk) × IsKept p v (es ++ e ∷ []) others now
    × (race_lines (numbered (bench p v) (es ++ e ∷ [])) others
    ≡ race_lines (numbered (bench p v) es) walks ++ line)

-- these edges were taken in and counted, and these are their lines
abbrev pub IsKnown : Plan → Version → List Edge → List ℕ → Reporting → Type 0
IsKnown p v es bytes now =
    (walks : List Walk) × IsKept p v es walks now.racing × (now.judged ≡ length es)
    × (bytes ≡ race_lines (numbered (bench p v) es) walks)
