-- What is left of a trace that is read up to the edge that is asked for.
use Rattle.std.specs.Prelude.{◌≡◌, ◌⊎◌, ◌<◌, ℕ, List, length, take, Option, Some, None, Result, Ok, Err}
use Rattle.vme_model.specs.declared.refusals.Refused.{Refused}
use Rattle.vme_model.specs.declared.signals.Version.{Version}
use Rattle.vme_model.specs.declared.signals.Edge.{Edge}
use Rattle.vme_model.specs.Plan.{Plan}
use Rattle.vme_model.specs.Verdict.{State}
use Rattle.vme_model.specs.Text.{Reading, read_of}
use Rattle.vme_model.specs.Numbered.{IsNth}
use Rattle.vme_trace.specs.declared.Fault.{Fault}
use Rattle.vme_reading.specs.declared.seeking.Found.{Found}
use Rattle.vme_reading.specs.declared.seeking.Found.TheVariants.{At, Legal, Beyond}
use Rattle.vme_reading.specs.Streams.{Streams, IsReadOut, WroteNothing}
use Rattle.vme_reading.specs.Outcomes.{bench}
use Rattle.vme_reading.specs.Refusals.{first_refusal, refusal_of}
use Rattle.vme_reading.specs.Waiting.{StopsWaiting}

-- ---- which edge

-- an edge is asked for by its number, or as the first that is refused: it is the n-th
abbrev pub IsAsked : Option ℕ → State → List Edge → ℕ → Type 0
IsAsked (Some asked) b es n = n ≡ asked
IsAsked None b es n = (refused : Refused) × (first_refusal 1 b es ≡ Some (n, refused))

-- none of these edges is asked for; none is the 0th
abbrev pub IsUnasked : Option ℕ → Plan → Option Version → List Edge → Type 0
IsUnasked (Some asked) p version es = 0 < asked → length es < asked
IsUnasked None p version es = refusal_of p version es ≡ None

-- what holds of the edge that is asked for, and of the edges before it
pub record OfAsked
    (edge : Option ℕ) (p : Plan) (r : Reading) (P : Version → List Edge → Edge → Type 0)
    : Type 0 where
  pub version : Version
  pub named : r.version ≡ Some version
  pub n : ℕ
  pub e : Edge
  pub at : IsNth r.edges n e
  pub asked : IsAsked edge (bench p version) r.edges n
  pub holds : P version (take at.place r.edges) e

-- ---- none

-- No number is asked for, and no edge of the whole trace is refused: there are so many.
pub record IsAllLegal (asked : Option ℕ) (p : Plan) (r : Reading) (s : Streams) (edges : ℕ)
    : Type 0 where
  pub none : asked ≡ None
  pub whole : r.fault ≡ None
  pub unrefused : refusal_of p r.version r.edges ≡ None
  pub count : edges ≡ length r.edges
  pub read_out : IsReadOut s

-- The whole trace has so many edges, fewer than are asked for; none is the 0th.
pub record IsBeyond (asked : Option ℕ) (r : Reading) (s : Streams) (edges : ℕ) : Type 0 where
  pub wanted : ℕ
  pub number : asked ≡ Some wanted
  pub few : 0 < wanted → edges < wanted
  pub whole : r.fault ≡ None
  pub count : edges ≡ length r.edges
  pub read_out : IsReadOut s

-- ---- what is left

-- what a command writes at an edge of a trace of a version, behind these edges, from what the
-- writer held to what it holds, and answers
abbrev pub Writing : Type 0 → Type 1
Writing A =
    Version → List Edge → Edge → Option (List ℕ) → Option (List ℕ) → Result A Fault → Type 0

-- What is left of a trace on a plan: what is written at the edge; nothing, if there is none. A
-- command can give up on the way to it, at a fault of its own, and has written nothing then.
abbrev pub SeeksEdge :
    {A : Type 0} → Writing A → (Fault → Type 0) → Option ℕ → Plan → List ℕ → Streams
    → Result (Found A) Fault → Type 0
SeeksEdge Writes Fails asked p trace s (Ok (At a)) =
    OfAsked asked p (read_of trace) (λ v before e. Writes v before e s.old s.new (Ok a))
SeeksEdge Writes Fails asked p trace s (Ok (Legal edges)) =
    IsAllLegal asked p (read_of trace) s edges × WroteNothing s
SeeksEdge Writes Fails asked p trace s (Ok (Beyond edges)) =
    IsBeyond asked (read_of trace) s edges × WroteNothing s
SeeksEdge Writes Fails asked p trace s (Err f) =
    (StopsWaiting (IsUnasked asked p) trace s f × WroteNothing s)
    ⊎ ((Fails f × WroteNothing s)
    ⊎ OfAsked asked p (read_of trace) (λ v before e. Writes v before e s.old s.new (Err f)))
