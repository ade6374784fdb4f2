-- What a reader of captures has read. What was said has the newest first.
use Rattle.std.specs.Prelude.{◌≡◌, ◌⊎◌, ◌++◌, ◌∷◌, [], ℕ, true, false, List, Option, Some, None, Result, Ok, Err, map, reverse}
use Rattle.std.specs.Borrow.{Bor}
use Rattle.vme_model.specs.declared.signals.Version.{Version}
use Rattle.vme_model.specs.Plan.{Plan}
use Rattle.vme_model.specs.Text.{split_lines}
use Rattle.vme_trace.specs.declared.Fault.TheVariants as trace
use Rattle.vme_trace.specs.Reading.{IsPart}
use Rattle.vme_captures.specs.declared.signals.Pin.{Pin}
use Rattle.vme_captures.specs.declared.signals.Signal.TheVariants as signal
use Rattle.vme_captures.specs.declared.signals.Line.{Line}
use Rattle.vme_captures.specs.declared.signals.Signal.{Signal}
use Rattle.vme_captures.specs.declared.signals.Entry.{Entry}
use Rattle.vme_captures.specs.declared.signals.Entry.TheVariants as entry
use Rattle.vme_captures.specs.declared.CaptureFault.{CaptureFault}
use Rattle.vme_captures.specs.declared.CaptureFault.TheVariants.{Trace}
use Rattle.vme_captures.specs.declared.reader.Reader.{Reader}
use Rattle.vme_captures.specs.declared.reader.Probe.{Probe}
use Rattle.vme_captures.specs.Signals.{is_line}
use Rattle.vme_captures.specs.Wires.{wire_of}
use Rattle.vme_captures.specs.Levels.{is_line_left_low}
use Rattle.vme_captures.specs.Reading.{Reading, read_of, read_entries, read_from_header, behind_header, pins, is_running, last_moment, is_left_low}

-- a declared pin, with its wire, and whether it is low
abbrev pub probe_of : Plan → List Entry → Pin → Probe
probe_of p said q = record { pin = q; wire = wire_of p q; low = is_left_low said (signal.Pin q) }

-- the pins in the order of their lines
abbrev pub probes_of : Plan → List Entry → List Probe
probes_of p said = map (probe_of p said) (pins said)

-- the reader keeps what a further line is judged by
pub record Keeps (p : Plan) (r : Reader) (said : List Entry) : Type 0 where
  pub running : r.is_running ≡ is_running said
  pub last : r.last ≡ last_moment said
  pub probes : r.probes.items ≡ probes_of p said
  pub lines : (l : Line) → is_line l ≡ true
      → is_line_left_low r.lines l ≡ is_left_low said (signal.Line l)
  -- nothing is low above `running` and the first moment
  pub head : is_running said ≡ false → last_moment said ≡ None
      → (x : Signal) → is_left_low said x ≡ false

-- what further lines say, behind what was said
abbrev pub after : List Entry → List Entry × Option CaptureFault → List Entry × Option CaptureFault
after said found = (reverse said ++ found.0, found.1)

abbrev pub rest_at : Plan → Option Version → ℕ → List Entry → List (List ℕ) × List ℕ → Reading
rest_at p None n said s = read_from_header p s.0 s.1
rest_at p (Some version) n said s =
    behind_header (Some version) (after said (read_entries p n said s.0 s.1))

-- what the whole text says, if these bytes are left of it
abbrev pub rest_of : Plan → Reader → List Entry → List ℕ → Reading
rest_of p r said more = rest_at p r.version r.line said (split_lines (r.part.items ++ more))

-- The reader has read these bytes, and this is what they said: whatever bytes follow, what they say
-- from the reader's place on is what is left of the whole. It keeps no more than a part of one
-- line, so no fault stands in the bytes.
pub record HasRead (p : Plan) (r : Reader) (bytes : List ℕ) (said : List Entry) : Type 0 where
  pub part : IsPart r.part.items
  pub keeps : Keeps p r said
  pub start : r.version ≡ None → (r.line ≡ 1) × (said ≡ []) × (r.part.items ≡ bytes)
  pub others : (more : List ℕ) → read_of p (bytes ++ more) ≡ rest_of p r said more

-- there was no memory for the pin that comes next
pub record LacksRoom (r : Reading) (said : List Entry) : Type 0 where
  pub pin : Pin
  pub others : List Entry
  pub are : r.entries ≡ reverse said ++ entry.Pin pin ∷ others

-- a text that says this has this fault next, behind what was said; or it is X6 at a pin
abbrev pub IsFaultAfter : Reading → List Entry → CaptureFault → Type 0
IsFaultAfter r said f =
    ((r.entries ≡ reverse said) × (r.fault ≡ Some f))
    ⊎ ((f ≡ Trace trace.Memory) × LacksRoom r said)

-- what was said, with one more
abbrev pub with_entry : Option Entry → List Entry → List Entry
with_entry None said = said
with_entry (Some e) said = e ∷ said

-- A reader took in the last of these bytes, behind what was said.
abbrev pub Took : Plan → List ℕ → List Entry → Reader → Result (Option Entry) CaptureFault → Type 0
Took p bytes said new (Ok e) = HasRead p new bytes (with_entry e said)
Took p bytes said new (Err f) = (more : List ℕ) → IsFaultAfter (read_of p (bytes ++ more)) said f

-- the answer at the end of these bytes
abbrev pub Ended : Reading → List Entry → Result (Unit {0}) CaptureFault → Type 0
Ended r said (Ok _) = (r.entries ≡ reverse said) × (r.fault ≡ None)
Ended r said (Err f) = (r.entries ≡ reverse said) × (r.fault ≡ Some f)

-- A reader took in a piece, up to the end of the first line that says something: what it says, and
-- the rest of the piece.
abbrev pub Fed :
    Plan → List ℕ → List ℕ → List Entry → Reader
    → Result (Option Entry × Bor (List ℕ)) CaptureFault → Type 0
Fed p bytes piece said new (Ok fed) =
    (taken : List ℕ) × (piece ≡ taken ++ fed.1.now)
    × (fed.0 ≡ None → fed.1.now ≡ [])
    × HasRead p new (bytes ++ taken) (with_entry fed.0 said)
Fed p bytes piece said new (Err f) =
    (more : List ℕ) → IsFaultAfter (read_of p ((bytes ++ piece) ++ more)) said f
