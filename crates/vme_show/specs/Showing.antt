-- What `show` writes and answers.
use Rattle.std.specs.Prelude.{◌≡◌, ◌⊎◌, ◌-◌, ◌<◌, ◌≤◌, ℕ, Bool, List, [], length, take, drop, Option, Some, None, Ok, Err}
use Rattle.vme_model.specs.declared.signals.Version.{Version}
use Rattle.vme_model.specs.declared.signals.Edge.{Edge}
use Rattle.vme_model.specs.Plan.{Plan}
use Rattle.vme_model.specs.Verdict.{State, kept}
use Rattle.vme_model.specs.Text.{Reading, read_of}
use Rattle.vme_trace.specs.declared.Fault.{Fault}
use Rattle.vme_trace.specs.declared.Fault.TheVariants.{Write}
use Rattle.vme_show.specs.Picture.{picture}
use Rattle.vme_reading.specs.declared.EngineFault.TheVariants as fault
use Rattle.vme_reading.specs.Streams.{Streams, IsInput, IsReadOut, Wrote, WroteFront, WroteNothing}
use Rattle.vme_reading.specs.Outcomes.{Answer, bench, refused_count, status_with}
use Rattle.vme_reading.specs.Waiting.{StopsWaiting}

-- The picture of those of these edges that have the numbers `from` to `to`, from 1: on a backplane
-- that has none of them, each is judged on what was kept before it.
abbrev pub picture_of : Bool → ℕ → ℕ → State → List Edge → List ℕ
picture_of color from to b es =
    picture color from (kept b (take (from - 1) es)) (drop (from - 1) (take to es))

-- the picture of the edges `from` to `to` of a trace, whose header line names this version, if any
abbrev pub shown_text : Bool → ℕ → ℕ → Plan → Option Version → List Edge → List ℕ
shown_text color from to p None es = []
shown_text color from to p (Some version) es = picture_of color from to (bench p version) es

-- the last of them is there, or the end of a whole trace
abbrev pub IsShownOut : ℕ → Reading → Streams → Type 0
IsShownOut to r s = (to ≤ length r.edges) ⊎ ((r.fault ≡ None) × IsReadOut s)

-- What is left if the edges `from` to `to` of a trace are shown, of which these stand before a
-- fault of it: the picture of those among them that are.
abbrev pub StopsShowing :
    Bool → ℕ → ℕ → Plan → List ℕ → Streams → (List ℕ → Type 0) → Fault → Type 0
StopsShowing color from to p trace s Writes f =
    StopsWaiting
    (λ version es. (length es < to) × Writes (shown_text color from to p version es))
    trace s f

-- What is left if the edges `from` to `to` of a trace on a plan are shown: their picture, at a
-- fault of the trace that of those before it, at X8 a prefix. The status is by what is refused up
-- to the last of them. X9: of a whole trace with so many edges.
abbrev pub Shows : ℕ → ℕ → Bool → Plan → List ℕ → Streams → Answer → Type 0
Shows from to color p trace s (Ok status) =
    let r = read_of trace in
    (from ≤ length r.edges) × IsShownOut to r s
    × Wrote s (shown_text color from to p r.version r.edges)
    × (status ≡ status_with (refused_count p r.version (take to r.edges)))
Shows from to color p trace s (Err (fault.Trace f)) =
    let r = read_of trace in
    StopsShowing color from to p trace s (Wrote s) f
    ⊎ ((f ≡ Write) × IsShownOut to r s
    × WroteFront s (shown_text color from to p r.version r.edges))
    ⊎ ((f ≡ Write) × (at : Fault) × StopsShowing color from to p trace s (WroteFront s) at)
Shows from to color p trace s (Err (fault.Beyond edges)) =
    let r = read_of trace in
    (edges < from) × (edges ≡ length r.edges) × (r.fault ≡ None) × IsReadOut s × WroteNothing s
Shows from to color p trace s (Err _) = ⊥

-- what is left if the edges `from` to `to` of the whole input are shown, as a trace on a plan
abbrev pub ShowsInput : ℕ → ℕ → Bool → Streams → Plan → Answer → Type 0
ShowsInput from to color s p answer =
    (trace : List ℕ) × IsInput s.from trace × Shows from to color p trace s answer
