-- What `state` writes and answers.
use Rattle.std.specs.Prelude.{◌≡◌, ◌⊎◌, ◌<◌, ◌≤◌, ℕ, List, length, take, Option, Some, None, Ok, Err}
use Rattle.vme_model.specs.declared.signals.Version.{Version}
use Rattle.vme_model.specs.declared.signals.Edge.{Edge}
use Rattle.vme_model.specs.Plan.{Plan}
use Rattle.vme_model.specs.Verdict.{State, kept}
use Rattle.vme_model.specs.Text.{Reading, read_of}
use Rattle.vme_model.specs.Numbered.{numbered}
use Rattle.vme_model.specs.Stands.{stands_text}
use Rattle.vme_trace.specs.declared.Fault.TheVariants.{Write}
use Rattle.vme_reading.specs.declared.Status.TheVariants.{Done}
use Rattle.vme_reading.specs.declared.EngineFault.TheVariants as fault
use Rattle.vme_reading.specs.Streams.{Streams, IsInput, IsReadOut, Wrote, WroteFront, WroteNothing}
use Rattle.vme_reading.specs.Outcomes.{Answer, bench}
use Rattle.vme_reading.specs.Waiting.{StopsWaiting}

-- a place is asked for by the number of edges before it, or as the end of a whole trace: there are
-- n of them
abbrev pub IsReached : Option ℕ → Reading → Streams → ℕ → Type 0
IsReached (Some after) r s n = (n ≡ after) × (n ≤ length r.edges)
IsReached None r s n = (n ≡ length r.edges) × (r.fault ≡ None) × IsReadOut s

-- the place is not among these edges, once the version is known, nor behind them
abbrev pub IsAhead : Option ℕ → Option Version → List Edge → Type 0
IsAhead (Some after) (Some version) es = length es < after
IsAhead after version es = Unit {0}

-- where the bus stands behind the first n of these edges
abbrev pub stands_behind : State → List Edge → ℕ → List ℕ
stands_behind b es n = stands_text n (kept b (take n es)) (numbered b (take n es))

-- The place that is asked for is named by its block.
pub record IsStated
    (after : Option ℕ) (p : Plan) (r : Reading) (s : Streams) (text : List ℕ)
    : Type 0 where
  pub version : Version
  pub named : r.version ≡ Some version
  pub n : ℕ
  pub reached : IsReached after r s n
  pub block : text ≡ stands_behind (bench p version) r.edges n

-- What is left if a trace on a plan is asked where the bus stands: the block, at X8 a prefix of it;
-- if there is none, nothing. X9: of a whole trace with so many edges.
abbrev pub States : Option ℕ → Plan → List ℕ → Streams → Answer → Type 0
States after p trace s (Ok status) =
    (text : List ℕ) × IsStated after p (read_of trace) s text × Wrote s text × (status ≡ Done)
States after p trace s (Err (fault.Trace f)) =
    (StopsWaiting (IsAhead after) trace s f × WroteNothing s)
    ⊎ ((f ≡ Write) × (text : List ℕ) × IsStated after p (read_of trace) s text
    × WroteFront s text)
States after p trace s (Err (fault.Beyond edges)) =
    (wanted : ℕ) × (after ≡ Some wanted) × (edges < wanted)
    × ((read_of trace).fault ≡ None) × (edges ≡ length (read_of trace).edges)
    × IsReadOut s × WroteNothing s
States after p trace s (Err _) = ⊥

-- what is left if the whole input is asked where the bus stands, as a trace on a plan
abbrev pub StatesInput : Option ℕ → Streams → Plan → Answer → Type 0
StatesInput after s p answer =
    (trace : List ℕ) × IsInput s.from trace × States after p trace s answer
