-- What the bytes of a capture say, and their first fault. (Profile. What a line is, and a header,
-- is `vme_model.specs.Text`; how a line is spelled is `Spelling`.) What was said is looked back at,
-- so these lists have the newest first.
use Rattle.std.specs.Prelude.{◌&&◌, ◌||◌, not, if◌then◌else◌, ◌++◌, ◌∷◌, [], ℕ, Bool, true, false, List, Option, Some, None, Result, Ok, Err, length, nat_lt, is_none, is_some, option_map}
use Rattle.std.specs.List.{list_any}
use Rattle.std.specs.Option.{option_map_or}
use Rattle.vme_model.specs.declared.signals.Version.{Version}
use Rattle.vme_model.specs.Accepted.{first_of, when}
use Rattle.vme_model.specs.Plan.{Plan}
use Rattle.vme_model.specs.Text.{TextFault, no_header, too_long, cut_off, end_fault, is_too_long, next_number, split_lines, version_of}
use Rattle.vme_trace.specs.Reading.{fault_of}
use Rattle.vme_captures.specs.declared.signals.Pin.{Pin}
use Rattle.vme_captures.specs.declared.signals.Signal.{Signal}
use Rattle.vme_captures.specs.declared.signals.Signal.TheVariants as signal
use Rattle.vme_captures.specs.declared.signals.Change.{Change}
use Rattle.vme_captures.specs.declared.signals.Entry.{Entry}
use Rattle.vme_captures.specs.declared.signals.Entry.TheVariants as entry
use Rattle.vme_captures.specs.declared.CaptureFault.{CaptureFault}
use Rattle.vme_captures.specs.declared.CaptureFault.TheVariants.{Trace, Earlier, NoPin, SameWire, NotProbed, NoChange, NoLine}
use Rattle.vme_captures.specs.Signals.{is_same_pin, is_same_signal}
use Rattle.vme_captures.specs.Changes.{differ}
use Rattle.vme_captures.specs.Possible.{Capture}
use Rattle.vme_captures.specs.Wires.{has_pin, pin_on, wire_of}
use Rattle.vme_captures.specs.Words.{entry_of}

-- the pins that are probed, in the order of their lines
abbrev pub pins : List Entry → List Pin
pins [] = []
pins (entry.Pin q ∷ said) = pins said ++ q ∷ []
pins (_ ∷ said) = pins said

-- the bus was running at the beginning
abbrev pub is_running : List Entry → Bool
is_running [] = false
is_running (entry.Running ∷ said) = true
is_running (_ ∷ said) = is_running said

-- what was low then
abbrev pub lows : List Entry → List Signal
lows [] = []
lows (entry.Low x ∷ said) = x ∷ lows said
lows (_ ∷ said) = lows said

-- the last moment
abbrev pub last_moment : List Entry → Option ℕ
last_moment [] = None
last_moment (entry.Moment m ∷ said) = Some m
last_moment (_ ∷ said) = last_moment said

abbrev pub changes : List Entry → List Change
changes [] = []
changes (entry.Change c ∷ said) = c ∷ changes said
changes (_ ∷ said) = changes said

-- the line or pin is low: its last change is a fall, or it was low at the beginning
abbrev pub is_left_low : List Entry → Signal → Bool
is_left_low [] x = false
is_left_low (entry.Low y ∷ said) x = is_same_signal y x || is_left_low said x
is_left_low (entry.Change c ∷ said) x =
    if is_same_signal c.signal x then c.fall else is_left_low said x
is_left_low (_ ∷ said) x = is_left_low said x

-- a line is probed, and a pin if it is declared
abbrev pub is_declared : List Entry → Signal → Bool
is_declared said (signal.Line l) = true
is_declared said (signal.Pin q) = list_any (is_same_pin q) (pins said)

-- X16: the head stands above the first moment, and the changes below it; what was low stands below
-- `running`, and the pins above it
abbrev pub may_stand : List Entry → Entry → Bool
may_stand said (entry.Pin q) = not (is_running said) && is_none (last_moment said)
may_stand said entry.Running = not (is_running said) && is_none (last_moment said)
may_stand said (entry.Low x) = is_running said && is_none (last_moment said)
may_stand said (entry.Moment m) = true
may_stand said (entry.Change c) = is_some (last_moment said)

-- X10
abbrev pub is_earlier : List Entry → Entry → Bool
is_earlier said (entry.Moment m) = option_map_or (λ last. nat_lt m last) (last_moment said) false
is_earlier said _ = false

-- X12
abbrev pub is_no_pin : Plan → Entry → Bool
is_no_pin p (entry.Pin q) = not (has_pin p q)
is_no_pin p _ = false

-- X13
abbrev pub has_same_wire : Plan → List Entry → Entry → Bool
has_same_wire p said (entry.Pin q) = is_some (pin_on p (pins said) (wire_of p q))
has_same_wire p said _ = false

-- X14
abbrev pub is_not_probed : List Entry → Entry → Bool
is_not_probed said (entry.Low x) = not (is_declared said x)
is_not_probed said (entry.Change c) = not (is_declared said c.signal)
is_not_probed said _ = false

-- X15
abbrev pub changes_nothing : List Entry → Entry → Bool
changes_nothing said (entry.Low x) = is_left_low said x
changes_nothing said (entry.Change c) = not (differ (is_left_low said c.signal) c.fall)
changes_nothing said _ = false

-- the fault of the n-th line, behind what was said, if it has one
abbrev pub fault_at : Plan → ℕ → List Entry → Entry → Option CaptureFault
fault_at p n said e = first_of (
    when (not (may_stand said e)) (NoLine n)
    ∷ when (is_earlier said e) (Earlier n)
    ∷ when (is_no_pin p e) (NoPin n)
    ∷ when (has_same_wire p said e) (SameWire n)
    ∷ when (is_not_probed said e) (NotProbed n)
    ∷ when (changes_nothing said e) (NoChange n)
    ∷ [])

abbrev pub unless_fault : Entry → Option CaptureFault → Result Entry CaptureFault
unless_fault e None = Ok e
unless_fault e (Some f) = Err f

abbrev pub entry_says : Plan → ℕ → List Entry → Option Entry → Result Entry CaptureFault
entry_says p n said None = Err (NoLine n)
entry_says p n said (Some e) = unless_fault e (fault_at p n said e)

-- a fault that a trace may have too: X1, X3 or X4
abbrev pub text_fault : TextFault → CaptureFault
text_fault f = Trace (fault_of f)

-- what the n-th line says behind what was said
abbrev pub line_says : Plan → ℕ → List Entry → List ℕ → Result Entry CaptureFault
line_says p n said line =
    if is_too_long line then Err (text_fault (too_long n)) else entry_says p n said (entry_of line)

-- what a line says, before the lines after it
abbrev pub before_others :
    Result Entry CaptureFault → (Entry → List Entry × Option CaptureFault)
    → List Entry × Option CaptureFault
before_others (Err fault) others = ([], Some fault)
before_others (Ok e) others = (e ∷ (others e).0, (others e).1)

-- the lines from the n-th on, behind what was said, and the rest after them; what they say is in
-- their order
unfoldable pub read_entries :
    Plan → ℕ → List Entry → List (List ℕ) → List ℕ → List Entry × Option CaptureFault
read_entries p n said [] rest = ([], option_map text_fault (end_fault n rest))
read_entries p n said (line ∷ lines) rest =
    before_others (line_says p n said line)
    (λ e. read_entries p (next_number n) (e ∷ said) lines rest)

-- what the bytes say: the version, once the header line stands, what its other lines say up to the
-- first fault, in their order, and that fault
pub record Reading : Type 0 where
  pub version : Option Version
  pub entries : List Entry
  pub fault : Option CaptureFault

abbrev pub unread : TextFault → Reading
unread fault = record { version = None; entries = []; fault = Some (text_fault fault) }

abbrev pub behind_header : Option Version → List Entry × Option CaptureFault → Reading
behind_header None found = unread no_header
behind_header (Some version) found =
    record { version = Some version; entries = found.0; fault = found.1 }

-- the first line is the header
abbrev pub read_from_header : Plan → List (List ℕ) → List ℕ → Reading
read_from_header p [] rest =
    if is_too_long rest then unread (too_long 1)
    else (if nat_lt 0 (length rest) then unread cut_off else unread no_header)
read_from_header p (line ∷ lines) rest =
    if is_too_long line then unread (too_long 1)
    else behind_header (version_of line) (read_entries p 2 [] lines rest)

-- what the whole bytes say
unfoldable pub read_of : Plan → List ℕ → Reading
read_of p bytes = read_from_header p (split_lines bytes).0 (split_lines bytes).1

-- what was captured, by what was said
abbrev pub capture_of : Version → List Entry → Capture
capture_of version said = record {
  version = version;
  pins = pins said;
  is_running = is_running said;
  lows = lows said;
  changes = changes said;
}
