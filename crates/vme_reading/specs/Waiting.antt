-- A fault of a trace that comes before an engine has what it waits for.
use Rattle.std.specs.Prelude.{◌≡◌, ◌++◌, ℕ, List, Option}
use Rattle.vme_model.specs.declared.signals.Version.{Version}
use Rattle.vme_model.specs.declared.signals.Edge.{Edge}
use Rattle.vme_model.specs.Text.{read_of}
use Rattle.vme_trace.specs.declared.Fault.{Fault}
use Rattle.vme_trace.specs.declared.Fault.TheVariants.{Header, Line, TooLong, CutOff, Read, Memory, Failed, Write}
use Rattle.vme_reading.specs.Streams.{Streams, HasConsumed}
use Rattle.vme_reading.specs.Outcomes.{HasFault, CanGoOn}

-- The engine still waits behind these edges of a trace, whose header line names this version, if
-- any. X1 to X4: behind those before the fault. X5: behind those of what was read, which can go on.
-- X6: behind those that found room.
abbrev pub StopsWaiting :
    (Option Version → List Edge → Type 0) → List ℕ → Streams → Fault → Type 0
StopsWaiting Waits trace s Header =
    HasFault trace Header × Waits (read_of trace).version (read_of trace).edges
StopsWaiting Waits trace s (Line n) =
    HasFault trace (Line n) × Waits (read_of trace).version (read_of trace).edges
StopsWaiting Waits trace s (TooLong n) =
    HasFault trace (TooLong n) × Waits (read_of trace).version (read_of trace).edges
StopsWaiting Waits trace s CutOff =
    HasFault trace CutOff × Waits (read_of trace).version (read_of trace).edges
StopsWaiting Waits trace s Read =
    (bytes : List ℕ) × HasConsumed s bytes × CanGoOn bytes
    × Waits (read_of bytes).version (read_of bytes).edges
StopsWaiting Waits trace s Memory =
    (es : List Edge) × (others : List Edge) × ((read_of trace).edges ≡ es ++ others)
    × Waits (read_of trace).version es
StopsWaiting Waits trace s Failed = ⊥
StopsWaiting Waits trace s Write = ⊥
