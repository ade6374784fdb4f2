-- What is kept of two traces so far.
use Rattle.std.specs.Prelude.{◌≡◌, ◌+◌, ◌<◌, ◌≤◌, ◌&&◌, ◌++◌, ◌∷◌, ◌^◌, [], ℕ, Bool, true, false, List, length, map, nat_le, not, None}
use Rattle.vme_model.specs.declared.signals.Version.{Version}
use Rattle.vme_model.specs.declared.signals.Edge.{Edge}
use Rattle.vme_model.specs.Plan.{Plan}
use Rattle.vme_model.specs.Numbered.{Numbered, edges_in, numbered}
use Rattle.vme_model.specs.Verdict.{IsLegal}
use Rattle.vme_model.specs.Report.{trace_limit}
use Rattle.vme_bus.specs.States.{IsStateOf}
use Rattle.vme_swaps.specs.Swaps.{AreOneButForSwaps}
use Rattle.vme_reading.specs.Refusals.{first_refusal}
use Rattle.vme_reading.specs.Outcomes.{bench}
use Rattle.vme_swaps.specs.Stops.{most_passed}
use Rattle.vme_same.specs.declared.comparisons.Comparison.{Comparison}
use Rattle.vme_same.specs.declared.matching.Matching.{Matching}
use Rattle.vme_same.specs.declared.edges.Next.{Next}
use Rattle.vme_same.specs.declared.progress.Pairing.{Pairing}
use Rattle.vme_same.specs.declared.progress.Sought.{Sought}
use Rattle.vme_same.specs.declared.progress.Progress.{Progress}
use Rattle.vme_same.specs.declared.progress.Progress.TheVariants.{Open, Seeks, Finds}
use Rattle.vme_same.specs.declared.edges.Left.{Left}
use Rattle.vme_same.specs.declared.rest.Rest.{Rest}
use Rattle.vme_same.specs.declared.sides.Side.{Side}
use Rattle.vme_same.specs.Comparing.{Compares, IsFirstOf, IsMissing, IsOutcome}

-- ---- a trace

-- no edge of these was refused, and the bus is that behind them
pub record IsUnrefused (p : Plan) (v : Version) (es : List Edge) (now : Side) : Type 0 where
  pub state : IsStateOf v p (edges_in (numbered (bench p v) es)) now.state
  pub all : length (numbered (bench p v) es) ≡ length es
  pub fits : length es ≤ trace_limit

pub record IsSide (p : Plan) (v : Version) (es : List Edge) (now : Side) : Type 0 where
  pub judged : now.judged ≡ length es
  pub refusal : now.refusal ≡ first_refusal 1 (bench p v) es
  pub unrefused : now.refusal ≡ None → IsUnrefused p v es now

-- ---- what is left of the first trace

abbrev pub numbers : List Left → Numbered
numbers xs = map (λ l. (l.number, l.edge)) xs

-- the first edge that is e has so many others before it
pub record IsAt (e : Edge) (place : ℕ) (xs : List Left) : Type 0 where
  pub behind : List Left
  pub left : Left
  pub before : List Left
  pub split : xs ≡ behind ++ left ∷ before
  pub is : left.edge ≡ e
  pub count : length before ≡ place
  pub first : IsMissing e (numbers before)

-- ---- what waits of the second trace

abbrev pub edges_of : List Next → List Edge
edges_of xs = map (λ x. x.edge) xs

-- ---- how far the traces were matched

-- whatever comes, what is found from here on is what is found of all
abbrev pub Leads :
    Plan → Version → Version → Numbered → List Edge → Numbered → Numbered → ℕ → List Edge → Type 0
Leads p v w k fs taken left n next =
    (more : Numbered) (later : List Edge) (found : Comparison)
    → Compares v p taken (more ++ left) n (next ++ later) found
    → IsOutcome p v w (more ++ k) (fs ++ later) found

-- So many edges were looked for, and all came to the front of the first trace, of which the rest is
-- left. These edges of the second trace come next.
pub record IsOpen
    (p : Plan) (v w : Version) (k : Numbered) (fs next : List Edge) (rest : Rest) (count : ℕ)
    : Type 0 where
  pub taken : Numbered
  pub state : IsStateOf v p (edges_in taken) rest.behind
  pub legal : IsLegal v p (edges_in (numbers rest.edges.items ++ taken))
  pub swaps : AreOneButForSwaps v p (edges_in k) (edges_in (numbers rest.edges.items ++ taken))
  pub leads : Leads p v w k fs taken (numbers rest.edges.items) count next
  pub all : count + length next ≡ length fs
  pub few : length fs < 2 ^ 64

-- this edge is looked for, and more edges are left than it may pass
pub record IsSought
    (p : Plan) (v w : Version) (k : Numbered) (fs : List Edge) (sought : Sought)
    : Type 0 where
  pub taken : Numbered
  pub left : Numbered
  pub next : List Edge
  pub count : ℕ
  pub number : sought.number ≡ count + 1
  pub missing : IsMissing sought.edge left
  pub own : IsFirstOf sought.edge.driver left sought.own
  pub leads : Leads p v w k fs taken left count (sought.edge ∷ next)
  pub many : most_passed < length left

-- whatever comes, this is found; nothing more comes of a trace that has ended
abbrev pub IsSure :
    Plan → Version → Version → Numbered → List Edge → Bool → Bool → Comparison → Type 0
IsSure p v w k fs ended over found =
    (more : Numbered) (later : List Edge) → (ended ≡ true → more ≡ [])
    → (over ≡ true → later ≡ []) → IsOutcome p v w (more ++ k) (fs ++ later) found

abbrev pub GoesBy :
    Plan → Version → Version → Numbered → List Edge → Bool → Bool → List Next → Rest → ℕ
    → Progress → Type 0
GoesBy p v w k fs ended over next rest n Open = IsOpen p v w k fs (edges_of next) rest n
GoesBy p v w k fs ended over next rest n (Seeks sought) =
    (ended ≡ false) × IsSought p v w k fs sought
GoesBy p v w k fs ended over next rest n (Finds found) = IsSure p v w k fs ended over found

abbrev pub Goes :
    Plan → Version → Version → Numbered → List Edge → Pairing → Progress → Type 0
Goes p v w k fs now progress =
    GoesBy p v w k fs now.has_ended now.is_over now.waiting.items now.rest now.taken progress

-- the edges k of the first trace and fs of the second one were taken in; none was refused
abbrev pub IsGoing : Plan → Version → Version → Numbered → List Edge → Pairing → Type 0
IsGoing p v w k fs now = Goes p v w k fs now now.progress

-- what holds of all edges that were taken in
abbrev pub OfGoing :
    Pairing → (Plan → Version → Version → Numbered → List Edge → Type 0) → Type 0
OfGoing now P =
    (p : Plan) (v w : Version) (k : Numbered) (fs : List Edge)
    → IsGoing p v w k fs now → P p v w k fs

-- more edges of the first trace are left than an edge may pass, or it has ended
abbrev pub IsAmple : Pairing → Type 0
IsAmple now = now.has_ended ≡ false → most_passed < length now.rest.edges.items

-- if the first trace has ended, all that came was looked for
abbrev pub IsIdle : Pairing → Type 0
IsIdle now = now.progress ≡ Open → now.has_ended ≡ true → now.waiting.items ≡ []

-- ---- both traces

-- the first trace goes on, and no more edges of it are left than an edge may pass
abbrev pub lacks_first : Matching → Bool
lacks_first now =
    not now.pairing.has_ended && nat_le (length now.pairing.rest.edges.items) most_passed

-- The edges es of the first trace and fs of the second one were taken in; whether each has ended.
pub record Runs
    (p : Plan) (v w : Version) (es : List Edge) (ended : Bool) (fs : List Edge) (over : Bool)
    (now : Matching)
    : Type 0 where
  pub first : IsSide p v es now.first
  pub second : IsSide p w fs now.second
  pub first_ends : now.pairing.has_ended ≡ ended
  pub second_ends : now.pairing.is_over ≡ over
  pub going : now.first.refusal ≡ None → now.second.refusal ≡ None
      → IsGoing p v w (numbered (bench p v) es) fs now.pairing

abbrev pub Stands :
    Plan → Version → Version → List Edge → Bool → List Edge → Bool → Matching → Type 0
Stands p v w es ended fs over now = Runs p v w es ended fs over now × IsIdle now.pairing
