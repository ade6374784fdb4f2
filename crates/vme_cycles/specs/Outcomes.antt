-- What `cycles` writes and answers.
use Rattle.std.specs.Prelude.{◌≡◌, ◌⊎◌, ◌++◌, [], ℕ, List, Option, Some, None, Ok, Err}
use Rattle.vme_model.specs.declared.signals.Version.{Version}
use Rattle.vme_model.specs.declared.signals.Edge.{Edge}
use Rattle.vme_model.specs.declared.signals.Wire.TheVariants.{Bbsy, AddressStrobe}
use Rattle.vme_model.specs.Plan.{Plan}
use Rattle.vme_model.specs.Numbered.{numbered}
use Rattle.vme_model.specs.Text.{Reading, TextFault, read_of}
use Rattle.vme_trace.specs.declared.Fault.TheVariants.{Write}
use Rattle.vme_reading.specs.declared.EngineFault.TheVariants as fault
use Rattle.vme_reading.specs.Streams.{Streams, IsInput, IsReadOut, Wrote, WroteFront}
use Rattle.vme_reading.specs.Outcomes.{Answer, bench, refused_count, status_of}
use Rattle.vme_reading.specs.Waiting.{StopsWaiting}
use Rattle.vme_cycles.specs.Transactions.{ended, lines_on, open_lines, totals_text}

-- the lines at the edges of a trace of this version
abbrev pub lines_by : Plan → Version → List Edge → List ℕ
lines_by p v es = lines_on (bench p v) 0 [] es

-- the lines at the edges of a trace, whose header line names this version, if any
abbrev pub edge_lines : Plan → Option Version → List Edge → List ℕ
edge_lines p None es = []
edge_lines p (Some v) es = lines_by p v es

-- what stands behind them: what is under way, and how much there was
abbrev pub last_lines : Plan → Version → List Edge → List ℕ
last_lines p v es =
    let k = numbered (bench p v) es in
    open_lines p k
    ++ totals_text (ended AddressStrobe k) (ended Bbsy k) (refused_count p (Some v) es)

-- the last lines, which stand only after a whole trace
abbrev pub ending : Option TextFault → Plan → Option Version → List Edge → List ℕ
ending None p (Some v) es = last_lines p v es
ending _ p version es = []

-- all that is written of a trace
abbrev pub cycles_text : Plan → Reading → List ℕ
cycles_text p r = edge_lines p r.version r.edges ++ ending r.fault p r.version r.edges

-- What `cycles` leaves of a trace on a plan: its text; at a fault of the trace the lines at the
-- edges before it; at X8 a prefix of its text.
abbrev pub Reports : Plan → List ℕ → Streams → Answer → Type 0
Reports p trace s (Ok status) =
    ((read_of trace).fault ≡ None) × IsReadOut s × Wrote s (cycles_text p (read_of trace))
    × (status ≡ status_of p (read_of trace))
Reports p trace s (Err (fault.Trace f)) =
    StopsWaiting (λ version es. Wrote s (edge_lines p version es)) trace s f
    ⊎ ((f ≡ Write) × WroteFront s (cycles_text p (read_of trace)))
Reports p trace s (Err _) = ⊥

-- what `cycles` leaves of the whole input, as a trace on a plan
abbrev pub ReportsInput : Streams → Plan → Answer → Type 0
ReportsInput s p answer = (trace : List ℕ) × IsInput s.from trace × Reports p trace s answer
