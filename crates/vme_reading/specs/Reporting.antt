-- What is left of a trace by a command that writes lines at its edges, and last lines at its end.
use Rattle.std.specs.Prelude.{◌≡◌, ◌⊎◌, ◌++◌, [], ℕ, List, Option, Some, None, Result, Ok, Err}
use Rattle.std.specs.Io.KnownBytes.{Appends}
use Rattle.vme_model.specs.declared.signals.Version.{Version}
use Rattle.vme_model.specs.declared.signals.Edge.{Edge}
use Rattle.vme_model.specs.Plan.{Plan}
use Rattle.vme_model.specs.Text.{Reading, read_of}
use Rattle.vme_trace.specs.declared.Fault.{Fault}
use Rattle.vme_trace.specs.declared.Fault.TheVariants.{Write}
use Rattle.vme_trace.specs.Writing.{AppendsFront}
use Rattle.vme_reading.specs.declared.Status.{Status}
use Rattle.vme_reading.specs.Streams.{Streams, IsReadOut, Wrote, WroteFront}
use Rattle.vme_reading.specs.Outcomes.{status_of}
use Rattle.vme_reading.specs.Waiting.{StopsWaiting}

-- which bytes are a command's lines at these edges of a trace of a version, or all its text of them
abbrev pub Writes : Type 1
Writes = Plan → Version → List Edge → List ℕ → Type 0

-- the lines at the edges of a trace, whose header line names this version, if any
abbrev pub AreLinesAt : Writes → Plan → Option Version → List Edge → List ℕ → Type 0
AreLinesAt Lines p None es bytes = bytes ≡ []
AreLinesAt Lines p (Some v) es bytes = Lines p v es bytes

-- the lines at them and the last lines: there are none without a header line
abbrev pub IsTextOf : Writes → Plan → Option Version → List Edge → List ℕ → Type 0
IsTextOf Text p None es bytes = ⊥
IsTextOf Text p (Some v) es bytes = Text p v es bytes

-- the lines at the edges that a trace begins with, up to some edge
abbrev pub StopsBetween : Writes → Plan → Reading → (List ℕ → Type 0) → Type 0
StopsBetween Lines p r Wrote =
    (es : List Edge) × (others : List Edge) × (r.edges ≡ es ++ others)
    × (bytes : List ℕ) × AreLinesAt Lines p r.version es bytes × Wrote bytes

-- What is left of a trace on a plan: the whole text; at a fault of the trace, or one of the
-- command's own, the lines at the edges before it; at X8 a prefix of the lines at the edges that
-- the trace begins with, or of the text, if the trace has no fault.
abbrev pub ReportsEach :
    Writes → Writes → (Fault → Type 0) → Plan → List ℕ → Streams → Result Status Fault → Type 0
ReportsEach Lines Text Fails p trace s (Ok status) =
    ((read_of trace).fault ≡ None) × IsReadOut s
    × ((bytes : List ℕ) × IsTextOf Text p (read_of trace).version (read_of trace).edges bytes
    × Wrote s bytes)
    × (status ≡ status_of p (read_of trace))
ReportsEach Lines Text Fails p trace s (Err f) =
    StopsWaiting (λ version es. (bytes : List ℕ) × AreLinesAt Lines p version es bytes
    × Wrote s bytes) trace s f
    ⊎ ((Fails f × StopsBetween Lines p (read_of trace) (λ bytes. Wrote s bytes))
    ⊎ ((f ≡ Write) × (StopsBetween Lines p (read_of trace) (λ bytes. WroteFront s bytes)
    ⊎ (((read_of trace).fault ≡ None)
    × (bytes : List ℕ) × IsTextOf Text p (read_of trace).version (read_of trace).edges bytes
    × WroteFront s bytes))))

-- ---- behind these edges

-- these bytes were written since the first edge
abbrev pub HasWritten : Writes → Plan → Version → List Edge → Option (List ℕ) → Option (List ℕ)
    → Type 0
HasWritten Lines p v es old new = (bytes : List ℕ) × Lines p v es bytes × Appends old new bytes

-- a prefix of them was
abbrev pub HasWrittenFront : Writes → Plan → Version → List Edge → Option (List ℕ)
    → Option (List ℕ) → Type 0
HasWrittenFront Lines p v es old new =
    (bytes : List ℕ) × Lines p v es bytes × AppendsFront old new bytes

-- a fault came at the edge behind `before`: one of the command's own, or its line was cut off
abbrev pub StopsAt : Writes → (Fault → Type 0) → Plan → Version → List Edge → List Edge
    → Option (List ℕ) → Option (List ℕ) → Fault → Type 0
StopsAt Lines Fails p v before es old new f =
    (Fails f × HasWritten Lines p v before old new)
    ⊎ ((f ≡ Write) × HasWrittenFront Lines p v es old new)

-- a fault came at one of these edges
abbrev pub StopsAmong : Writes → (Fault → Type 0) → Plan → Version → List Edge → List Edge
    → Option (List ℕ) → Option (List ℕ) → Fault → Type 0
StopsAmong Lines Fails p v before es old new f =
    (front : List Edge) × (rest : List Edge) × (es ≡ front ++ rest)
    × ((Fails f × HasWritten Lines p v (before ++ front) old new)
    ⊎ ((f ≡ Write) × HasWrittenFront Lines p v (before ++ front) old new))
