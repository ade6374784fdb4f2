-- What `races` writes and answers.
use Rattle.std.specs.Prelude.{◌≡◌, ◌⊎◌, ◌++◌, [], ℕ, List, Option, Some, None, Ok, Err}
use Rattle.vme_model.specs.declared.signals.Version.{Version}
use Rattle.vme_model.specs.declared.signals.Edge.{Edge}
use Rattle.vme_model.specs.Plan.{Plan}
use Rattle.vme_model.specs.Numbered.{numbered}
use Rattle.vme_model.specs.Text.{Reading, read_of}
use Rattle.vme_trace.specs.declared.Fault.TheVariants.{Write}
use Rattle.vme_reading.specs.declared.EngineFault.TheVariants as fault
use Rattle.vme_reading.specs.Streams.{Streams, IsInput, IsReadOut, Wrote, WroteFront}
use Rattle.vme_reading.specs.Outcomes.{Answer, bench, status_of}
use Rattle.vme_reading.specs.Waiting.{StopsWaiting}
use Rattle.vme_races.specs.declared.walks.Walk.{Walk}
use Rattle.vme_races.specs.Walks.{AreWalks}
use Rattle.vme_races.specs.Lines.{last_line, race_lines}

-- the lines at these edges
abbrev pub AreLines : Plan → Option Version → List Edge → List ℕ → Type 0
AreLines p None es bytes = bytes ≡ []
AreLines p (Some v) es bytes =
    (walks : List Walk) × AreWalks v p (numbered (bench p v) es) walks
    × (bytes ≡ race_lines (numbered (bench p v) es) walks)

-- the lines at these edges, and the last line
abbrev pub IsText : Plan → Option Version → List Edge → List ℕ → Type 0
IsText p None es bytes = ⊥
IsText p (Some v) es bytes =
    let k = numbered (bench p v) es in
    (walks : List Walk) × AreWalks v p k walks × (bytes ≡ race_lines k walks ++ last_line k walks)

-- X8: a prefix of the lines at edges that the trace begins with, or of its whole text.
abbrev pub StopsWriting : Plan → Reading → Streams → Type 0
StopsWriting p r s =
    ((es : List Edge) × (others : List Edge) × (r.edges ≡ es ++ others)
    × (bytes : List ℕ) × AreLines p r.version es bytes × WroteFront s bytes)
    ⊎ ((bytes : List ℕ) × IsText p r.version r.edges bytes × WroteFront s bytes)

-- What `races` leaves of a trace on a plan: its text; at a fault of the trace, or without memory,
-- the lines at the edges before it; at X8 a prefix of its text.
abbrev pub Reports : Plan → List ℕ → Streams → Answer → Type 0
Reports p trace s (Ok status) =
    ((read_of trace).fault ≡ None) × IsReadOut s
    × ((bytes : List ℕ) × IsText p (read_of trace).version (read_of trace).edges bytes
    × Wrote s bytes)
    × (status ≡ status_of p (read_of trace))
Reports p trace s (Err (fault.Trace f)) =
    StopsWaiting (λ version es. (bytes : List ℕ) × AreLines p version es bytes × Wrote s bytes)
    trace s f
    ⊎ ((f ≡ Write) × StopsWriting p (read_of trace) s)
Reports p trace s (Err _) = ⊥

-- what `races` leaves of the whole input, as a trace on a plan
abbrev pub ReportsInput : Streams → Plan → Answer → Type 0
ReportsInput s p answer = (trace : List ℕ) × IsInput s.from trace × Reports p trace s answer
