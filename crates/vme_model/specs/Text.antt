-- The text of a trace. (Profile.)
use Rattle.std.specs.Prelude.{◌≡◌, ◌==◌, ◌<◌, ℕ, ◌+◌, ◌-◌, ◌/◌, ◌%◌, ◌^◌, min, Bool, true, false, List, [], ◌∷◌, ◌++◌, length, map, filter, find, Option, Some, None, IsTrue, codes, nat_lt, if◌then◌else◌}
use Rattle.std.specs.List.{flat_map}
use Rattle.std.specs.Str.{bytes_eq}
use Rattle.vme_model.specs.declared.signals.Version.{Version}
use Rattle.vme_model.specs.declared.signals.Version.TheVariants.{One, Two}
use Rattle.vme_model.specs.declared.signals.Driver.{Driver}
use Rattle.vme_model.specs.declared.signals.Driver.TheVariants.{Controller, Slot}
use Rattle.vme_model.specs.declared.signals.Wire.{Wire}
use Rattle.vme_model.specs.declared.signals.Wire.TheVariants.{Bg, Bclr, Iack, Berr, Br, BgOut, Bbsy, Addr, AddressStrobe, DataStrobe, Irq, IackOut, Dtack}
use Rattle.vme_model.specs.declared.signals.Cycle.{Cycle}
use Rattle.vme_model.specs.declared.signals.Cycle.TheVariants.{Acknowledge, Access}
use Rattle.vme_model.specs.declared.signals.Edge.{Edge}
use Rattle.vme_model.specs.Signals.{is_well_formed}
use Rattle.vme_model.specs.Plan.{up_to}

-- a number below 100, in decimal without a leading zero
abbrev pub number : ℕ → List ℕ
number n = if nat_lt n 10 then (48 + n) ∷ [] else (48 + n / 10) ∷ (48 + n % 10) ∷ []

-- a driver's text
abbrev pub driver_text : Driver → List ℕ
driver_text Controller = codes "c"
driver_text (Slot s) = number s

-- a wire's text
abbrev pub wire_text : Wire → List ℕ
wire_text (Bg n) = codes "bg" ++ (48 + n) ∷ []
wire_text Bclr = codes "bclr"
wire_text Iack = codes "iack"
wire_text Berr = codes "berr"
wire_text Br = codes "br"
wire_text BgOut = codes "bgout"
wire_text Bbsy = codes "bbsy"
wire_text Addr = codes "addr"
wire_text AddressStrobe = codes "as"
wire_text DataStrobe = codes "ds"
wire_text Irq = codes "irq"
wire_text IackOut = codes "iackout"
wire_text Dtack = codes "dtack"

-- a grant has a word for its level
abbrev pub HasWord : Wire → Type 0
HasWord (Bg n) = n < 4
HasWord _ = Unit {0}

-- a fall, and a rise
abbrev pub sign : Bool → List ℕ
sign true = codes "-"
sign false = codes "+"

-- what an edge shows, after a space
abbrev pub argument : Option Cycle → List ℕ
argument None = []
argument (Some (Acknowledge v)) = codes " i" ++ number v
argument (Some (Access t)) = codes " r" ++ number t

-- the spelling of an edge, without its line feed
abbrev pub spelling : Edge → List ℕ
spelling e =
    (((driver_text e.driver ++ codes " ") ++ wire_text e.wire) ++ sign e.fall) ++ argument e.value

-- a line spells a well-formed edge
abbrev pub Spells : List ℕ → Edge → Type 0
Spells line e = IsTrue (is_well_formed e) × (line ≡ spelling e)

-- every driver that a line can name
abbrev pub all_drivers : List Driver
all_drivers = Controller ∷ map (λ s. Slot s) (up_to 21)

-- every wire
abbrev pub all_wires : List Wire
all_wires =
    Bg 0 ∷ Bg 1 ∷ Bg 2 ∷ Bg 3 ∷ Bclr ∷ Iack ∷ Berr ∷ Br ∷ BgOut ∷ Bbsy ∷ Addr ∷ AddressStrobe
    ∷ DataStrobe ∷ Irq ∷ IackOut ∷ Dtack ∷ []

-- every value, and none
abbrev pub all_values : List (Option Cycle)
all_values =
    None ∷ map (λ v. Some (Acknowledge v)) (up_to 7) ++ map (λ t. Some (Access t)) (up_to 21)

-- every well-formed edge
unfoldable pub all_edges : List Edge
all_edges = filter is_well_formed
    (flat_map (λ d. flat_map (λ w. flat_map (λ v.
    record { driver = d; wire = w; fall = true; value = v }
    ∷ record { driver = d; wire = w; fall = false; value = v }
    ∷ []) all_values) all_wires) all_drivers)

-- the edge that a line spells, if there is one
unfoldable pub edge_of : List ℕ → Option Edge
edge_of line = find (λ e. bytes_eq line (spelling e)) all_edges

-- the header line of a version
abbrev pub header : Version → List ℕ
header One = codes "vme 1"
header Two = codes "vme 2"

-- the version that a header line names
abbrev pub version_of : List ℕ → Option Version
version_of line =
    if bytes_eq line (header One) then Some One
    else (if bytes_eq line (header Two) then Some Two else None)

-- a line for each of these edges
abbrev pub edge_lines : List Edge → List ℕ
edge_lines es = flat_map (λ e. spelling e ++ 10 ∷ []) es

-- the text of these edges: the header line, and a line for each edge
abbrev pub text : Version → List Edge → List ℕ
text version es = (header version ++ 10 ∷ []) ++ edge_lines es

-- why a trace cannot be read, with the number of its line: X1, X2, X3, X4
pub data TextFault : Type 0 where
  no_header : TextFault
  no_edge : ℕ → TextFault
  too_long : ℕ → TextFault
  cut_off : TextFault

-- what the bytes of a trace say: its version, if the header line is there; its edges up to the
-- first fault; and that fault
pub record Reading : Type 0 where
  pub version : Option Version
  pub edges : List Edge
  pub fault : Option TextFault

-- one more byte at the head of the first line
abbrev pub begin_line : ℕ → List (List ℕ) × List ℕ → List (List ℕ) × List ℕ
begin_line b ([], rest) = ([], b ∷ rest)
begin_line b (l ∷ ls, rest) = ((b ∷ l) ∷ ls, rest)

-- bytes split into lines: the complete ones, each without its line feed, and what stands after the
-- last line feed
unfoldable pub split_lines : List ℕ → List (List ℕ) × List ℕ
split_lines [] = ([], [])
split_lines (b ∷ bs) =
    if b == 10 then ([] ∷ (split_lines bs).0, (split_lines bs).1) else begin_line b (split_lines bs)

-- a line has at most 64 bytes
abbrev pub is_too_long : List ℕ → Bool
is_too_long line = nat_lt 64 (length line)

-- the number of the next line; it stays at its greatest value
abbrev pub next_number : ℕ → ℕ
next_number n = min (n + 1) (2 ^ 64 - 1)

-- the fault in what stands after the last line feed at the end of the input, if complete lines
-- stand before it
abbrev pub end_fault : ℕ → List ℕ → Option TextFault
end_fault n rest =
    if is_too_long rest then Some (too_long n)
    else (if nat_lt 0 (length rest) then Some cut_off else None)

-- the edge of a line, if it spells one, before those of later lines
abbrev pub before_others :
    ℕ → Option Edge → List Edge × Option TextFault → List Edge × Option TextFault
before_others n None others = ([], Some (no_edge n))
before_others n (Some e) others = (e ∷ others.0, others.1)

-- the lines from the n-th on, after the header line, and the rest after them
unfoldable pub read_lines : ℕ → List (List ℕ) → List ℕ → List Edge × Option TextFault
read_lines n [] rest = ([], end_fault n rest)
read_lines n (line ∷ lines) rest =
    if is_too_long line then ([], Some (too_long n))
    else before_others n (edge_of line) (read_lines (next_number n) lines rest)

-- what a trace says if it has a fault before its first edge
abbrev pub unread : TextFault → Reading
unread fault = record { version = None; edges = []; fault = Some fault }

-- what a trace says, by its header line and by the lines after it
abbrev pub behind_header : Option Version → List Edge × Option TextFault → Reading
behind_header None others = unread no_header
behind_header (Some version) others =
    record { version = Some version; edges = others.0; fault = others.1 }

-- what the lines say, the n-th of which is the header
abbrev pub read_from_header : ℕ → List (List ℕ) → List ℕ → Reading
read_from_header n [] rest =
    if is_too_long rest then unread (too_long n)
    else (if nat_lt 0 (length rest) then unread cut_off else unread no_header)
read_from_header n (line ∷ lines) rest =
    if is_too_long line then unread (too_long n)
    else behind_header (version_of line) (read_lines (next_number n) lines rest)

-- what all the bytes say
unfoldable pub read_of : List ℕ → Reading
read_of bytes = read_from_header 1 (split_lines bytes).0 (split_lines bytes).1
