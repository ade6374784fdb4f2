-- A trace that stands alone, up to its header line.
use Rattle.std.specs.Prelude.{◌≡◌, [], ℕ, List, length, true, Option, Some, None, Ok}
use Rattle.vme_model.specs.declared.signals.Version.{Version}
use Rattle.vme_model.specs.declared.signals.Edge.{Edge}
use Rattle.vme_model.specs.Locality.{AreWellFormed}
use Rattle.vme_trace.specs.declared.Fault.{Fault}
use Rattle.vme_trace.specs.Reading.{HasRead}
use Rattle.vme_reading.specs.declared.traces.Input.{Input}
use Rattle.vme_reading.specs.Streams.{streams, IsInput}
use Rattle.vme_reading.specs.Steps.{IsCounted, Comes}
use Rattle.vme_reading.specs.Waiting.{StopsWaiting}

-- nothing was read
pub record IsUntouched (input : Input) : Type 0 where
  pub reader : HasRead input.reader [] []
  pub empty : input.edges.items ≡ []

-- The edges of the trace so far can be judged, and all that are to come be counted.
pub record IsReady (input : Input) : Type 0 where
  pub counted : input.more ≡ Ok true
      → IsCounted input.reader input.reads (length input.edges.items)
  pub well_formed : AreWellFormed input.edges.items

-- The trace was read up to there: its header line names this version, and these are its edges so
-- far.
pub record HasCome
    (from at : Option (List ℕ)) (version : Version) (es : List Edge) (input : Input)
    : Type 0 where
  pub known : input.reader.version ≡ Some version
  pub came : Comes from at [] input.reads input.reader es input.more

-- the trace was read up to its header line, which names this version
abbrev pub HasBegun : Option (List ℕ) → Option (List ℕ) → Version → Input → Type 0
HasBegun from at version input = HasCome from at version input.edges.items input

-- no header line was read, and so no edge
abbrev pub IsUnread : Option Version → List Edge → Type 0
IsUnread version es = (version ≡ None) × (es ≡ [])

-- a fault of the input before a header line
abbrev pub IsUnbegun : Option (List ℕ) → Option (List ℕ) → Fault → Type 0
IsUnbegun from to f =
    (trace : List ℕ) × IsInput from trace
    × StopsWaiting IsUnread trace (streams from to None None) f
