-- The part of an input before its trace, byte by byte: the words of the contracts between the
-- functions of `joined`.
use Rattle.std.specs.Prelude.{◌≡◌, ◌<◌, ◌≤◌, ◌⊎◌, ◌+◌, ◌++◌, ◌∷◌, [], ℕ, min, Bool, true, false, List, length, take, Option, Some, None, option_map, Result, Ok, Err}
use Rattle.std.specs.Io.KnownBytes.{Consumes}
use Rattle.std.specs.declared.alloc.AllocError.{AllocError}
use Rattle.vme_model.specs.declared.signals.Version.{Version}
use Rattle.vme_model.specs.declared.signals.Edge.{Edge}
use Rattle.vme_model.specs.Plan.{Plan}
use Rattle.vme_model.specs.Text.{header, read_of}
use Rattle.vme_trace.specs.declared.Fault.{Fault}
use Rattle.vme_trace.specs.Reading as trace
use Rattle.vme_trace.specs.Reading.{IsOneLine}
use Rattle.vme_reading.specs.declared.Status.{Status}
use Rattle.vme_replay.specs.declared.joins.Found.{Found}
use Rattle.vme_replay.specs.declared.joins.Front.{Front}
use Rattle.vme_reading.specs.Streams.{streams, IsInput, WroteNothing}
use Rattle.vme_reading.specs.declared.LineForm.TheVariants.{Short}
use Rattle.vme_reading.specs.Outcomes.{Answer, scenario_limit, LentAsking, Replays}
use Rattle.vme_replay.specs.Joining.{cut}
use Rattle.vme_reading.specs.Steps.{traced}

-- a cut of what stands after these bytes
abbrev pub behind : List ℕ → Option (List ℕ × List ℕ) → Option (List ℕ × List ℕ)
behind before parts = option_map (λ p. (before ++ p.0, p.1)) parts

-- the header line of a version, with its line feed
abbrev pub header_line : Version → List ℕ
header_line version = header version ++ 10 ∷ []

-- how many bytes are held before a trace: those of the greatest scenario, of a header line, and no
-- more
abbrev pub held_limit : ℕ
held_limit = scenario_limit + 6

-- all bytes are held, up to the limit
pub record IsHeld (held bytes : List ℕ) : Type 0 where
  pub count : length held ≡ min (length bytes) held_limit
  pub all : length bytes ≤ held_limit → held ≡ bytes

-- These bytes were taken: complete lines, none of them a header line, and a part of one.
pub record IsFront (f : Front) (bytes : List ℕ) : Type 0 where
  pub before : List ℕ
  pub part : List ℕ
  pub whole : bytes ≡ before ++ part
  pub none : (more : List ℕ) → cut true (before ++ more) ≡ behind before (cut true more)
  pub one_line : IsOneLine part
  pub line : f.line.items ≡ take 6 part
  pub held : IsHeld f.held.items bytes

-- These bytes end with the first header line; those before its line feed are held.
pub record EndsFront (f : Front) (bytes : List ℕ) (version : Version) : Type 0 where
  pub before : List ℕ
  pub whole : bytes ≡ before ++ header_line version
  pub none : (more : List ℕ) → cut true (before ++ more) ≡ behind before (cut true more)
  pub held : IsHeld f.held.items (before ++ header version)

-- what a byte does
abbrev pub Takes : List ℕ → ℕ → Front → Result (Option Version) AllocError → Type 0
Takes bytes byte f (Ok None) = IsFront f (bytes ++ byte ∷ [])
Takes bytes byte f (Ok (Some version)) = EndsFront f (bytes ++ byte ∷ []) version
Takes bytes byte f (Err e) = Unit {0}

-- what the bytes of a piece do
abbrev pub Finds : List ℕ → List ℕ → Front → Result (Option Found) AllocError → Type 0
Finds bytes piece f (Ok None) = IsFront f (bytes ++ piece)
Finds bytes piece f (Ok (Some found)) =
    (found.taken ≤ length piece)
    × EndsFront f (bytes ++ take found.taken piece) found.version
Finds bytes piece f (Err e) = Unit {0}

-- the scenario's text as it was held: all of it, unless both are too long
abbrev pub IsTextOf : List ℕ → List ℕ → Type 0
IsTextOf before text =
    (text ≡ before) ⊎ ((scenario_limit < length text) × (scenario_limit < length before))

-- A reader took in the header line and the rest of the piece after it.
abbrev pub Starts : List ℕ → trace.ReaderState → List Edge → Result Bool Fault → Type 0
Starts bytes reader es (Ok true) = trace.HasRead reader bytes es
Starts bytes reader es (Ok false) = ⊥
Starts bytes reader es (Err f) =
    (more : List ℕ) → trace.HasFaultAfter (read_of (bytes ++ more)) reader.version es f

-- What stands after a text was replayed on a plan: a header line, what was read after it, and the
-- rest.
abbrev pub ReplaysBehind :
    Plan → Version → List ℕ
    → Option (List ℕ) → Option (List ℕ) → Option (List ℕ) → Option (List ℕ)
    → Result Status Fault → Type 0
ReplaysBehind p version rest at to old new answer =
    (from : Option (List ℕ)) (before : List ℕ)
    → Consumes from at (before ++ (header_line version ++ rest))
    → (others : List ℕ) × IsInput from (before ++ (header_line version ++ others))
    × Replays Short p before (header_line version ++ others) (streams from to old new)
    (traced answer)

-- What stands after the text of a scenario was replayed: its header line, what was read after it,
-- and the rest.
abbrev pub JoinsBehind :
    Front → Version → List ℕ
    → Option (List ℕ) → Option (List ℕ) → Option (List ℕ) → Option (List ℕ)
    → Answer → Type 0
JoinsBehind f version rest at to old new answer =
    (from : Option (List ℕ)) (before : List ℕ)
    → IsHeld f.held.items (before ++ header version)
    → Consumes from at (before ++ (header_line version ++ rest))
    → (others : List ℕ) × IsInput from (before ++ (header_line version ++ others))
    × LentAsking before (WroteNothing (streams from to old new))
    (λ p r. Replays Short p before (header_line version ++ others)
    (streams from to old new) r) answer
