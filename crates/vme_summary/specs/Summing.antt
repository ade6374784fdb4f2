-- What `summary` writes and answers.
use Rattle.std.specs.Prelude.{◌≡◌, ◌⊎◌, ℕ, List, Option, Some, None, Ok, Err}
use Rattle.vme_model.specs.declared.signals.Version.{Version}
use Rattle.vme_model.specs.declared.signals.Edge.{Edge}
use Rattle.vme_model.specs.Plan.{Plan}
use Rattle.vme_model.specs.Text.{Reading, read_of}
use Rattle.vme_trace.specs.declared.Fault.TheVariants.{Write}
use Rattle.vme_summary.specs.Tally.{answered}
use Rattle.vme_summary.specs.Summary.{summary_text}
use Rattle.vme_reading.specs.declared.EngineFault.TheVariants as fault
use Rattle.vme_reading.specs.Streams.{Streams, IsInput, IsReadOut, Wrote, WroteFront, WroteNothing}
use Rattle.vme_reading.specs.Outcomes.{Answer, bench, status_of}
use Rattle.vme_reading.specs.Waiting.{StopsWaiting}

-- A whole trace without fault is summed up by this text: that of all its edges with their answers.
pub record IsSummedUp (p : Plan) (r : Reading) (text : List ℕ) : Type 0 where
  pub version : Version
  pub named : r.version ≡ Some version
  pub whole : r.fault ≡ None
  pub lines : text ≡ summary_text p (answered (bench p version) r.edges)

-- an engine that prints nothing before the end waits, wherever it stands
abbrev pub IsWaiting : Option Version → List Edge → Type 0
IsWaiting version es = Unit {0}

-- What a summary of a trace on a plan leaves: its text, at X8 a prefix of it; at a fault of the
-- trace nothing.
abbrev pub Sums : Plan → List ℕ → Streams → Answer → Type 0
Sums p trace s (Ok status) =
    (text : List ℕ) × IsSummedUp p (read_of trace) text × Wrote s text × IsReadOut s
    × (status ≡ status_of p (read_of trace))
Sums p trace s (Err (fault.Trace f)) =
    (StopsWaiting IsWaiting trace s f × WroteNothing s)
    ⊎ ((f ≡ Write) × (text : List ℕ) × IsSummedUp p (read_of trace) text × WroteFront s text)
Sums p trace s (Err _) = ⊥

-- a summary of the whole input
abbrev pub SumsInput : Streams → Plan → Answer → Type 0
SumsInput s p answer = (trace : List ℕ) × IsInput s.from trace × Sums p trace s answer
