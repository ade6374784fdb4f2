-- Reading a trace in pieces.
use Rattle.std.specs.Prelude.{◌≡◌, ◌≢◌, ◌⊎◌, ◌<◌, ◌≤◌, ℕ, Bool, true, false, List, [], ◌∷◌, ◌++◌, length, take, Option, Some, None, option_map, unwrap_or, Result, Ok, Err}
use Rattle.std.specs.Io.KnownBytes.{Consumes, IsAtEnd, Keeps}
use Rattle.vme_model.specs.declared.signals.Version.{Version}
use Rattle.vme_model.specs.declared.signals.Edge.{Edge}
use Rattle.vme_model.specs.Text.{TextFault, no_header, no_edge, too_long, cut_off, Reading, split_lines, read_lines, read_from_header, behind_header, read_of}
use Rattle.vme_trace.specs.declared.Fault.{Fault}
use Rattle.vme_trace.specs.declared.Fault.TheVariants.{Header, Line, TooLong, CutOff, Read, Memory}

abbrev pub fault_of : TextFault → Fault
fault_of no_header = Header
fault_of (no_edge n) = Line n
fault_of (too_long n) = TooLong n
fault_of cut_off = CutOff

-- no byte is a line feed
abbrev pub IsOneLine : List ℕ → Type 0
IsOneLine [] = Unit {0}
IsOneLine (b ∷ bs) = (b ≢ 10) × IsOneLine bs

-- the bytes of a line that is not complete, and not too long so far
pub record IsPart (part : List ℕ) : Type 0 where
  pub one_line : IsOneLine part
  pub short : length part ≤ 64

-- the number of the line that is not complete yet, and its bytes so far
pub record Place : Type 0 where
  pub line : ℕ
  pub part : List ℕ

-- a reader: the version, once the header line was read, and the place at which it stands; it has no
-- place once it is used up
pub record ReaderState : Type 0 where
  pub version : Option Version
  pub place : Option Place

-- what the bytes after a place say
abbrev pub rest_of : Option Version → Place → List ℕ → Reading
rest_of None p bytes =
    read_from_header p.line (split_lines (p.part ++ bytes)).0 (split_lines (p.part ++ bytes)).1
rest_of (Some version) p bytes =
    behind_header (Some version)
    (read_lines p.line (split_lines (p.part ++ bytes)).0 (split_lines (p.part ++ bytes)).1)

-- these edges, and then the others
abbrev pub with_edges : List Edge → Reading → Reading
with_edges es r = record { version = r.version; edges = es ++ r.edges; fault = r.fault }

-- The reader has read these bytes, and its version and these edges are those of the bytes: whatever
-- bytes follow, what they say from the reader's place on is what is left of the whole. It keeps no
-- more than a part of one line, so no fault stands in the bytes.
pub record HasRead (reader : ReaderState) (bytes : List ℕ) (es : List Edge) : Type 0 where
  pub place : Place
  pub stands : reader.place ≡ Some place
  pub part : IsPart place.part
  pub version : (read_of bytes).version ≡ reader.version
  pub edges : (read_of bytes).edges ≡ es
  pub others : (more : List ℕ)
      → read_of (bytes ++ more) ≡ with_edges es (rest_of reader.version place more)

-- A trace of this version has a fault after these edges. They are all edges up to the fault; if
-- memory ran out, they are only the first of them.
pub record HasFaultAfter
    (trace : Reading) (version : Option Version) (es : List Edge) (fault : Fault)
    : Type 0 where
  pub version_is : trace.version ≡ version
  pub front : (others : List Edge) × (trace.edges ≡ es ++ others)
  pub edges_are : fault ≢ Memory → trace.edges ≡ es
  pub fault_is : fault ≢ Memory → option_map fault_of trace.fault ≡ Some fault

-- The reader is used up by a fault of the trace after these edges.
abbrev pub Stops : ReaderState → Reading → List Edge → Fault → Type 0
Stops reader trace es fault = (reader.place ≡ None) × HasFaultAfter trace reader.version es fault

-- A reader took in the last piece of these bytes, after these edges: the list grew by the edges of
-- its lines.
abbrev pub Fed :
    List ℕ → List Edge → List Edge → List Edge → ReaderState → Result (Unit {0}) Fault → Type 0
Fed bytes es old new reader (Ok _) =
    (fs : List Edge) × (new ≡ old ++ fs) × HasRead reader bytes (es ++ fs)
Fed bytes es old new reader (Err fault) =
    (fs : List Edge) × (new ≡ old ++ fs)
    × ((more : List ℕ) → Stops reader (read_of (bytes ++ more)) (es ++ fs) fault)

-- the answer at the end of the input
abbrev pub answer_of : Option TextFault → Result (Unit {0}) Fault
answer_of None = Ok tt
answer_of (Some fault) = Err (fault_of fault)

-- A read failed: nothing was taken in.
abbrev pub FailsToRead :
    Option (List ℕ) → Option (List ℕ) → List ℕ
    → List Edge → List Edge → ReaderState → Fault → Type 0
FailsToRead from to bytes old new reader fault =
    (fault ≡ Read) × Keeps from to × (new ≡ old)
    × (reader.place ≡ None) × (reader.version ≡ (read_of bytes).version)

-- A fault of the trace stands in the piece that was read, or at the end of the input.
abbrev pub StopsWithin :
    Option (List ℕ) → Option (List ℕ) → List ℕ → List Edge
    → List Edge → List Edge → ReaderState → Fault → Type 0
StopsWithin from to bytes es old new reader fault =
    (piece : List ℕ) × (fs : List Edge)
    × (length piece ≤ 512) × Consumes from to piece × (new ≡ old ++ fs)
    × Stops reader (read_of ((bytes ++ piece) ++ unwrap_or to [])) (es ++ fs) fault

-- A reader took in one read of the input, after these bytes and edges: a piece, or the end.
abbrev pub Pumped :
    Option (List ℕ) → Option (List ℕ) → List ℕ → List Edge
    → List Edge → List Edge → ReaderState → Result Bool Fault → Type 0
Pumped from to bytes es old new reader (Ok true) =
    (piece : List ℕ) × (0 < length piece) × (length piece ≤ 512) × Consumes from to piece
    × Fed (bytes ++ piece) es old new reader (Ok tt)
Pumped from to bytes es old new reader (Ok false) =
    IsAtEnd to × Keeps from to × (new ≡ old) × (reader.place ≡ None)
    × (reader.version ≡ (read_of bytes).version) × ((read_of bytes).fault ≡ None)
Pumped from to bytes es old new reader (Err fault) =
    FailsToRead from to bytes old new reader fault
    ⊎ StopsWithin from to bytes es old new reader fault

-- One read gave the bytes at the head of the buffer; none only at the end of the input.
abbrev pub ReadsPiece : Option (List ℕ) → Option (List ℕ) → List ℕ → ℕ → Type 0
ReadsPiece from to buffer count =
    (count ≤ 512) × Consumes from to (take count buffer) × (count ≡ 0 → IsAtEnd to)
