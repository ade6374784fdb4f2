-- What `explain` writes and answers.
use Rattle.std.specs.Prelude.{◌≡◌, ◌⊎◌, ◌<◌, ℕ, List, length, take, is_ok, if◌then◌else◌, Option, Some, None, Ok, Err}
use Rattle.vme_model.specs.declared.refusals.Refused.{Refused}
use Rattle.vme_model.specs.declared.signals.Version.{Version}
use Rattle.vme_model.specs.declared.signals.Edge.{Edge}
use Rattle.vme_model.specs.Plan.{Plan}
use Rattle.vme_model.specs.Verdict.{State, verdict, kept}
use Rattle.vme_model.specs.Text.{Reading, read_of}
use Rattle.vme_model.specs.Numbered.{numbered, IsNth}
use Rattle.vme_model.specs.Why.{why_text}
use Rattle.vme_trace.specs.declared.Fault.TheVariants.{Write}
use Rattle.vme_reading.specs.declared.Status.{Status}
use Rattle.vme_reading.specs.declared.Status.TheVariants.{Done, SomeRefused}
use Rattle.vme_reading.specs.declared.EngineFault.TheVariants as fault
use Rattle.vme_check.specs.declared.checks.Finding.TheVariants.{Legal}
use Rattle.vme_reading.specs.Streams.{Streams, IsInput, IsReadOut, Wrote, WroteFront, WroteNothing}
use Rattle.vme_reading.specs.Outcomes.{Answer, bench}
use Rattle.vme_reading.specs.Refusals.{first_refusal, refusal_of}
use Rattle.vme_check.specs.Checking.{finding_line}
use Rattle.vme_reading.specs.Waiting.{StopsWaiting}

-- an edge is asked for by its number, or as the first that is refused: it is the n-th
abbrev pub IsAsked : Option ℕ → State → List Edge → ℕ → Type 0
IsAsked (Some asked) b es n = n ≡ asked
IsAsked None b es n = (refused : Refused) × (first_refusal 1 b es ≡ Some (n, refused))

-- none of these edges is asked for; none is the 0th
abbrev pub IsUnasked : Option ℕ → Plan → Option Version → List Edge → Type 0
IsUnasked (Some asked) p version es = 0 < asked → length es < asked
IsUnasked None p version es = refusal_of p version es ≡ None

-- the status if this edge is explained
abbrev pub edge_status : State → Edge → Status
edge_status b e = if is_ok (verdict b e) then Done else SomeRefused

-- The edge that is asked for is named by its block, judged on what was kept of the edges before it.
pub record IsExplained
    (edge : Option ℕ) (p : Plan) (r : Reading) (status : Status) (text : List ℕ)
    : Type 0 where
  pub version : Version
  pub named : r.version ≡ Some version
  pub n : ℕ
  pub e : Edge
  pub at : IsNth r.edges n e
  pub asked : IsAsked edge (bench p version) r.edges n
  pub ends : status ≡ edge_status (kept (bench p version) (take at.place r.edges)) e
  pub block :
      text ≡ why_text n (kept (bench p version) (take at.place r.edges))
      (numbered (bench p version) (take at.place r.edges)) e

-- No number is asked for, and no edge of the whole trace is refused: there are so many.
pub record IsAllLegal
    (edge : Option ℕ) (p : Plan) (r : Reading) (s : Streams) (status : Status) (text : List ℕ)
    : Type 0 where
  pub none : edge ≡ None
  pub whole : r.fault ≡ None
  pub unrefused : refusal_of p r.version r.edges ≡ None
  pub read_out : IsReadOut s
  pub ends : status ≡ Done
  pub line : text ≡ finding_line (Legal (length r.edges))

abbrev pub IsPrinted : Option ℕ → Plan → Reading → Streams → Status → List ℕ → Type 0
IsPrinted edge p r s status text = IsExplained edge p r status text ⊎ IsAllLegal edge p r s status text

-- What an explanation of an edge of a trace on a plan leaves: the block of the edge, or that all
-- are legal, at X8 a prefix of it; if there is neither, nothing. X9: of a whole trace with so
-- many edges.
abbrev pub Explains : Option ℕ → Plan → List ℕ → Streams → Answer → Type 0
Explains edge p trace s (Ok status) =
    (text : List ℕ) × IsPrinted edge p (read_of trace) s status text × Wrote s text
Explains edge p trace s (Err (fault.Trace f)) =
    (StopsWaiting (IsUnasked edge p) trace s f × WroteNothing s)
    ⊎ ((f ≡ Write) × (status : Status) × (text : List ℕ)
    × IsPrinted edge p (read_of trace) s status text × WroteFront s text)
Explains edge p trace s (Err (fault.Beyond edges)) =
    (asked : ℕ) × (edge ≡ Some asked) × (0 < asked → edges < asked)
    × ((read_of trace).fault ≡ None) × (edges ≡ length (read_of trace).edges)
    × IsReadOut s × WroteNothing s
Explains edge p trace s (Err _) = ⊥

-- an explanation of an edge of the whole input
abbrev pub ExplainsInput : Option ℕ → Streams → Plan → Answer → Type 0
ExplainsInput edge s p answer =
    (trace : List ℕ) × IsInput s.from trace × Explains edge p trace s answer
