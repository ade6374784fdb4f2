-- The words of the contracts between an engine's functions.
use Rattle.std.specs.Prelude.{◌≡◌, ◌≢◌, ◌<◌, ◌≤◌, ◌⊎◌, ◌+◌, ◌*◌, ◌^◌, ◌++◌, [], ℕ, Bool, true, false, List, length, Option, Some, None, unwrap_or, Result, Ok, Err}
use Rattle.std.specs.Io.KnownBytes.{Consumes, IsAtEnd}
use Rattle.vme_model.specs.declared.signals.Version.{Version}
use Rattle.vme_model.specs.declared.signals.Edge.{Edge}
use Rattle.vme_model.specs.Text.{Reading, read_of}
use Rattle.vme_scenario.specs.Format.{scenario}
use Rattle.vme_scenario.specs.Errors.{IsErrorOf}
use Rattle.vme_trace.specs.declared.Fault.{Fault}
use Rattle.vme_trace.specs.declared.Fault.TheVariants.{Read}
use Rattle.vme_trace.specs.Reading as trace
use Rattle.vme_reading.specs.declared.Status.{Status}
use Rattle.vme_reading.specs.declared.EngineFault.{EngineFault}
use Rattle.vme_reading.specs.declared.EngineFault.TheVariants as fault
use Rattle.vme_reading.specs.Outcomes.{Answer, scenario_limit, CanGoOn}

-- why there is no plan
abbrev pub IsNoPlan : List ℕ → EngineFault → Type 0
IsNoPlan text fault.TooLong = scenario_limit < length text
IsNoPlan text (fault.Scenario e) = (length text ≤ scenario_limit) × IsErrorOf (scenario text) e
IsNoPlan text _ = ⊥

-- ---- reading

-- how many bytes a read asks for
abbrev pub piece_size : ℕ
piece_size = 69632

-- room for so many reads, of a piece each, keeps every count far from its limit
abbrev pub IsBounded : List ℕ → ℕ → Type 0
IsBounded bytes left = length bytes + piece_size * left ≤ 2 ^ 41

-- a trace of this version begins with these edges
pub record Begins (r : Reading) (v : Version) (es : List Edge) : Type 0 where
  pub version : r.version ≡ Some v
  pub others : List Edge
  pub edges : r.edges ≡ es ++ others

-- A read failed behind these bytes of a trace, which can go on, and these edges of it.
pub record ReadFails
    (to : Option (List ℕ)) (bytes : List ℕ) (reader : trace.ReaderState) (es : List Edge)
    : Type 0 where
  pub version : reader.version ≡ (read_of bytes).version
  pub edges : (read_of bytes).edges ≡ es
  pub goes_on : CanGoOn bytes
  pub begins : (v : Version) → reader.version ≡ Some v
      → Begins (read_of (bytes ++ unwrap_or to [])) v es

-- A fault came from the input: a read failed, or the trace has a fault.
abbrev pub Faults : Option (List ℕ) → List ℕ → trace.ReaderState → List Edge → Fault → Type 0
Faults to bytes reader es f =
    ((f ≡ Read) × ReadFails to bytes reader es)
    ⊎ trace.HasFaultAfter (read_of (bytes ++ unwrap_or to [])) reader.version es f

-- A read came, and what it answered. The trace begins with a head; `es` are its edges up to here.
abbrev pub Comes :
    Option (List ℕ) → Option (List ℕ) → List ℕ → ℕ
    → trace.ReaderState → List Edge → Result Bool Fault → Type 0
Comes from to head left reader es (Ok true) =
    (later : List ℕ) × Consumes from to (head ++ later)
    × IsBounded (head ++ later) left × trace.HasRead reader (head ++ later) es
Comes from to head left reader es (Ok false) =
    (later : List ℕ) × Consumes from to (head ++ later) × IsAtEnd to
    × (reader.version ≡ (read_of (head ++ later)).version)
    × ((read_of (head ++ later)).edges ≡ es) × ((read_of (head ++ later)).fault ≡ None)
Comes from to head left reader es (Err f) =
    (later : List ℕ) × Consumes from to (head ++ later)
    × Faults to (head ++ later) reader es f

-- The reader has read a trace whose edges are few enough to be counted while so many reads are
-- left.
pub record IsCounted (reader : trace.ReaderState) (left judged : ℕ) : Type 0 where
  pub bytes : List ℕ
  pub es : List Edge
  pub read : trace.HasRead reader bytes es
  pub bounded : IsBounded bytes left
  pub count : judged ≡ length es

-- What the reads up to the header line leave: its version is known, or there is a fault.
abbrev pub Opens :
    Option (List ℕ) → Option (List ℕ) → trace.ReaderState → List Edge
    → Result Bool Fault × ℕ → Type 0
Opens from to reader es (answer, left) =
    Comes from to [] left reader es answer × (answer ≡ Ok true → reader.version ≢ None)

-- ---- answers

-- an engine's answer, its fault as one of the trace
abbrev pub traced : Result Status Fault → Answer
traced (Ok status) = Ok status
traced (Err f) = Err (fault.Trace f)
