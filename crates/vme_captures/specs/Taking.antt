-- What the parts of a reader do with what a line says.
use Rattle.std.specs.Prelude.{◌≡◌, ◌≢◌, ◌&&◌, ◌||◌, not, if◌then◌else◌, ◌++◌, ◌∷◌, [], ℕ, Bool, true, false, List, Option, Some, None, Result, Ok, Err, find, is_none, is_some, map, nat_lt, option_map}
use Rattle.std.specs.List.{list_any}
use Rattle.std.specs.Option.{option_map_or}
use Rattle.vme_model.specs.Plan.{Plan}
use Rattle.vme_model.specs.Text.{next_number, version_of}
use Rattle.vme_trace.specs.declared.Fault.TheVariants as trace
use Rattle.vme_captures.specs.declared.signals.Line.{Line}
use Rattle.vme_captures.specs.declared.signals.Pin.{Pin}
use Rattle.vme_captures.specs.declared.signals.Signal.{Signal}
use Rattle.vme_captures.specs.declared.signals.Signal.TheVariants as signal
use Rattle.vme_captures.specs.declared.signals.Entry.{Entry}
use Rattle.vme_captures.specs.declared.signals.Entry.TheVariants as entry
use Rattle.vme_captures.specs.declared.CaptureFault.{CaptureFault}
use Rattle.vme_captures.specs.declared.CaptureFault.TheVariants.{Trace, Earlier, NoPin, SameWire, NotProbed, NoChange, NoLine}
use Rattle.vme_captures.specs.declared.levels.Levels.{Levels}
use Rattle.vme_captures.specs.declared.reader.Probe.{Probe}
use Rattle.vme_captures.specs.declared.reader.Reader.{Reader}
use Rattle.vme_captures.specs.Changes.{differ}
use Rattle.vme_captures.specs.Levels.{is_line_left_low}
use Rattle.vme_captures.specs.Signals.{is_same_pin, is_same_segment}
use Rattle.vme_captures.specs.Wires.{has_pin, wire_of}
use Rattle.vme_captures.specs.Words.{entry_of}

-- the probe on a pin
abbrev pub probe_on : List Probe → Pin → Option Probe
probe_on probes q = find (λ r. is_same_pin q r.pin) probes

-- a pin on this wire is probed
abbrev pub is_wire_probed : List Probe → Plan → Pin → Bool
is_wire_probed probes p q = list_any (λ r. is_same_segment r.wire (wire_of p q)) probes

-- whether a line or a probed pin is low
abbrev pub level_in : Levels → List Probe → Signal → Option Bool
level_in lines probes (signal.Line l) = Some (is_line_left_low lines l)
level_in lines probes (signal.Pin q) = option_map (λ r. r.low) (probe_on probes q)

abbrev pub fault_of_level : ℕ → Option Bool → Bool → Option CaptureFault
fault_of_level n None low = Some (NotProbed n)
fault_of_level n (Some before) low = if differ before low then None else Some (NoChange n)

-- the fault of a line that moves a line or pin to a level
abbrev pub level_fault : Reader → Signal → Bool → Option CaptureFault
level_fault r x low = fault_of_level r.line (level_in r.lines r.probes.items x) low

-- the fault of the line of a pin
abbrev pub pin_fault : Plan → Reader → Pin → Option CaptureFault
pin_fault p r q =
    if r.is_running || is_some r.last then Some (NoLine r.line)
    else (if not (has_pin p q) then Some (NoPin r.line)
    else (if is_wire_probed r.probes.items p q then Some (SameWire r.line) else None))

-- the fault of a line that says this
abbrev pub fault_in : Plan → Reader → Entry → Option CaptureFault
fault_in p r (entry.Pin q) = pin_fault p r q
fault_in p r entry.Running =
    if r.is_running || is_some r.last then Some (NoLine r.line) else None
fault_in p r (entry.Low x) =
    if r.is_running && is_none r.last then level_fault r x true else Some (NoLine r.line)
fault_in p r (entry.Moment m) =
    if option_map_or (λ last. nat_lt m last) r.last false then Some (Earlier r.line) else None
fault_in p r (entry.Change c) =
    if is_none r.last then Some (NoLine r.line) else level_fault r c.signal c.fall

-- the probe, at this level if it is on the pin
abbrev pub with_low : Pin → Bool → Probe → Probe
with_low q low r = if is_same_pin q r.pin then record r { low = low } else r

-- the new reader is the old one, but for the level of a line or pin
abbrev pub SetsLow : Signal → Bool → Reader → Reader → Type 0
SetsLow (signal.Line l) low old new =
    (new ≡ record old { lines = new.lines })
    × (is_line_left_low new.lines l ≡ low)
    × ((k : Line) → k ≢ l → is_line_left_low new.lines k ≡ is_line_left_low old.lines k)
SetsLow (signal.Pin q) low old new =
    (new ≡ record old { probes = new.probes })
    × (new.probes.items ≡ map (with_low q low) old.probes.items)

-- the new reader is the old one, with what a line says
abbrev pub NotesEntry : Plan → Entry → Reader → Reader → Type 0
NotesEntry p (entry.Pin q) old new =
    (new ≡ record old { probes = new.probes })
    × (new.probes.items ≡ old.probes.items
    ++ record { pin = q; wire = wire_of p q; low = false } ∷ [])
NotesEntry p entry.Running old new = new ≡ record old { is_running = true }
NotesEntry p (entry.Low x) old new = SetsLow x true old new
NotesEntry p (entry.Moment m) old new = new ≡ record old { last = Some m }
NotesEntry p (entry.Change c) old new = SetsLow c.signal c.fall old new

-- only a pin wants memory
abbrev pub WantsRoom : Entry → CaptureFault → Type 0
WantsRoom (entry.Pin q) f = f ≡ Trace trace.Memory
WantsRoom e f = ⊥

abbrev pub Notes :
    Plan → Entry → Reader → Reader → Result (Unit {0}) CaptureFault → Type 0
Notes p e old new (Ok _) = NotesEntry p e old new
Notes p e old new (Err f) = WantsRoom e f

-- the new reader is the old one at the next line
abbrev pub GoesOn : Reader → Reader → Type 0
GoesOn old new =
    (new ≡ record old { part = new.part; line = next_number old.line }) × (new.part.items ≡ [])

-- a reader takes the header line, which stands in its part
abbrev pub TakesHeader : Reader → Reader → Result (Unit {0}) CaptureFault → Type 0
TakesHeader old new (Ok _) =
    GoesOn (record old { version = version_of old.part.items }) new
    × (is_some (version_of old.part.items) ≡ true)
TakesHeader old new (Err f) = (version_of old.part.items ≡ None) × (f ≡ Trace trace.Header)

-- a reader takes the line that stands in its part, and this is what it says
pub record TookEntry (p : Plan) (old new : Reader) (e : Entry) : Type 0 where
  pub said : entry_of old.part.items ≡ Some e
  pub fault : fault_in p old e ≡ None
  pub noted : Reader
  pub notes : NotesEntry p e old noted
  pub goes_on : GoesOn noted new

-- the line that stands in its part has a fault, or there is no memory for its pin
abbrev pub FaultOfEntry : Option CaptureFault → Entry → CaptureFault → Type 0
FaultOfEntry None e f = WantsRoom e f
FaultOfEntry (Some g) e f = f ≡ g

abbrev pub FaultOf : Plan → Reader → Option Entry → CaptureFault → Type 0
FaultOf p old None f = f ≡ NoLine old.line
FaultOf p old (Some e) f = FaultOfEntry (fault_in p old e) e f

abbrev pub TakesEntry :
    Plan → Reader → Reader → Result Entry CaptureFault → Type 0
TakesEntry p old new (Ok e) = TookEntry p old new e
TakesEntry p old new (Err f) = FaultOf p old (entry_of old.part.items) f
