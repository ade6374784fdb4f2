-- Reading a trace in pieces of up to a given size.
use Rattle.std.specs.Prelude.{◌≡◌, ◌⊎◌, ◌<◌, ◌≤◌, ℕ, Bool, true, false, List, [], ◌++◌, length, take, Option, None, unwrap_or, Result, Ok, Err}
use Rattle.std.specs.Io.KnownBytes.{Consumes, IsAtEnd, Keeps}
use Rattle.vme_model.specs.declared.signals.Edge.{Edge}
use Rattle.vme_model.specs.Text.{read_of}
use Rattle.vme_trace.specs.declared.Fault.{Fault}
use Rattle.vme_trace.specs.Reading.{ReaderState, FailsToRead, Fed, Stops}

-- A fault of the trace stands in the piece that was read, or at the end of the input.
abbrev pub StopsUpTo :
    ℕ → Option (List ℕ) → Option (List ℕ) → List ℕ → List Edge
    → List Edge → List Edge → ReaderState → Fault → Type 0
StopsUpTo size from to bytes es old new reader fault =
    (piece : List ℕ) × (fs : List Edge)
    × (length piece ≤ size) × Consumes from to piece × (new ≡ old ++ fs)
    × Stops reader (read_of ((bytes ++ piece) ++ unwrap_or to [])) (es ++ fs) fault

-- A reader took in one read of the input of up to a given size, after these bytes and edges: a
-- piece, or the end. `Reading.Pumped` is this for 512 bytes.
abbrev pub PumpedUpTo :
    ℕ → Option (List ℕ) → Option (List ℕ) → List ℕ → List Edge
    → List Edge → List Edge → ReaderState → Result Bool Fault → Type 0
PumpedUpTo size from to bytes es old new reader (Ok true) =
    (piece : List ℕ) × (0 < length piece) × (length piece ≤ size) × Consumes from to piece
    × Fed (bytes ++ piece) es old new reader (Ok tt)
PumpedUpTo size from to bytes es old new reader (Ok false) =
    IsAtEnd to × Keeps from to × (new ≡ old) × (reader.place ≡ None)
    × (reader.version ≡ (read_of bytes).version) × ((read_of bytes).fault ≡ None)
PumpedUpTo size from to bytes es old new reader (Err fault) =
    FailsToRead from to bytes old new reader fault
    ⊎ StopsUpTo size from to bytes es old new reader fault

-- One read gave the bytes at the head of the buffer; none only at the end of the input.
abbrev pub ReadsUpTo : ℕ → Option (List ℕ) → Option (List ℕ) → List ℕ → ℕ → Type 0
ReadsUpTo size from to buffer count =
    (count ≤ size) × Consumes from to (take count buffer) × (count ≡ 0 → IsAtEnd to)
