-- A text of moments: the lines of a trace, and between them the moments at which its edges were
-- seen. What is a line, an edge or a header is `vme_model.specs.Text`.
use Rattle.std.specs.Prelude.{◌==◌, ◌&&◌, ◌^◌, ◌∷◌, ◌++◌, [], ℕ, List, Option, Some, None, Result, Ok, Err, option_map, decimal, length, nat_lt, if◌then◌else◌}
use Rattle.std.specs.Str.{bytes_eq}
use Rattle.std.specs.Str.Parse.{digits_value}
use Rattle.vme_model.specs.declared.signals.Version.{Version}
use Rattle.vme_model.specs.declared.signals.Edge.{Edge}
use Rattle.vme_model.specs.Text.{TextFault, no_header, no_edge, too_long, cut_off, split_lines, is_too_long, next_number, end_fault, edge_of, version_of}
use Rattle.vme_moments.specs.declared.Seen.{Seen}

-- the number that these bytes spell in decimal, without a leading zero, if it has 64 bits at most
unfoldable pub number_of : List ℕ → Option ℕ
number_of digits =
    let n = digits_value 10 digits in
    if bytes_eq digits (decimal n) && nat_lt n (2 ^ 64) then Some n else None

-- the moment whose line this is, if it is one: the sign of a moment, and its number
abbrev pub moment_of : List ℕ → Option ℕ
moment_of [] = None
moment_of (b ∷ digits) = if b == 64 then number_of digits else None

-- why moments cannot be read: as a trace, or with the number of the line, X10 or X17, or F6
pub data MomentsFault : Type 0 where
  of_trace : TextFault → MomentsFault
  earlier : ℕ → MomentsFault
  momentless : ℕ → MomentsFault
  too_many : MomentsFault

-- the last moment after a line, and what was seen in it
pub record Said : Type 0 where
  pub last : Option ℕ
  pub seen : List Seen

-- the n-th line is a moment, and there was one before it, if any
abbrev pub at_moment : ℕ → Option ℕ → ℕ → Result Said MomentsFault
at_moment n None m = Ok (record { last = Some m; seen = [] })
at_moment n (Some last) m =
    if nat_lt m last then Err (earlier n) else Ok (record { last = Some m; seen = [] })

-- the n-th line is an edge, if it spells one; one without a moment above it is a fault of its own
abbrev pub at_edge : ℕ → Option ℕ → Option Edge → Result Said MomentsFault
at_edge n (Some m) (Some e) =
    Ok (record { last = Some m; seen = record { edge = e; moment = m; line = n } ∷ [] })
at_edge n None (Some e) = Err (momentless n)
at_edge n _ None = Err (of_trace (no_edge n))

abbrev pub at_either : ℕ → Option ℕ → Option ℕ → Option Edge → Result Said MomentsFault
at_either n last (Some m) e = at_moment n last m
at_either n last None e = at_edge n last e

-- what the n-th line says
abbrev pub line_says : ℕ → Option ℕ → List ℕ → Result Said MomentsFault
line_says n last line =
    if is_too_long line then Err (of_trace (too_long n))
    else at_either n last (moment_of line) (edge_of line)

-- what a line says, before the lines after it
abbrev pub before_others :
    Result Said MomentsFault → (Option ℕ → List Seen × Option MomentsFault)
    → List Seen × Option MomentsFault
before_others (Err fault) others = ([], Some fault)
before_others (Ok said) others = (said.seen ++ (others said.last).0, (others said.last).1)

-- the lines from the n-th on, after the header line, and the rest after them
unfoldable pub read_seen :
    ℕ → Option ℕ → List (List ℕ) → List ℕ → List Seen × Option MomentsFault
read_seen n last [] rest = ([], option_map (λ f. of_trace f) (end_fault n rest))
read_seen n last (line ∷ lines) rest =
    before_others (line_says n last line) (λ m. read_seen (next_number n) m lines rest)

-- what the bytes say: the version, once the header line stands, what was seen up to the first
-- fault, and that fault
pub record Reading : Type 0 where
  pub version : Option Version
  pub seen : List Seen
  pub fault : Option MomentsFault

abbrev pub unread : TextFault → Reading
unread fault = record { version = None; seen = []; fault = Some (of_trace fault) }

-- the most edges that are taken
abbrev pub seen_limit : ℕ
seen_limit = 1048576

-- more edges than are taken are a fault at the first that is too many
abbrev pub fault_within : List Seen × Option MomentsFault → Option MomentsFault
fault_within found = if nat_lt seen_limit (length found.0) then Some too_many else found.1

abbrev pub behind_header : Option Version → List Seen × Option MomentsFault → Reading
behind_header None found = unread no_header
behind_header (Some version) found =
    record { version = Some version; seen = found.0; fault = fault_within found }

-- the first line is the header
abbrev pub read_from_header : List (List ℕ) → List ℕ → Reading
read_from_header [] rest =
    if is_too_long rest then unread (too_long 1)
    else (if nat_lt 0 (length rest) then unread cut_off else unread no_header)
read_from_header (line ∷ lines) rest =
    if is_too_long line then unread (too_long 1)
    else behind_header (version_of line) (read_seen 2 None lines rest)

-- what the whole bytes say
unfoldable pub read_of : List ℕ → Reading
read_of bytes = read_from_header (split_lines bytes).0 (split_lines bytes).1
