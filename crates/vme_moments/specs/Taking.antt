-- What a reader of moments does with lines and bytes.
use Rattle.std.specs.Prelude.{◌≡◌, ◌⊎◌, ◌<◌, ◌≤◌, ◌++◌, [], ℕ, List, Option, Some, None, Result, Ok, Err, length, option_map}
use Rattle.vme_model.specs.declared.signals.Version.{Version}
use Rattle.vme_model.specs.Text.{split_lines}
use Rattle.vme_trace.specs.Reading.{IsPart}
use Rattle.vme_trace.specs.declared.Fault.TheVariants as trace
use Rattle.vme_moments.specs.declared.Seen.{Seen}
use Rattle.vme_moments.specs.declared.MomentsFault.{MomentsFault}
use Rattle.vme_moments.specs.declared.MomentsFault.TheVariants.{Trace, TooMany}
use Rattle.vme_moments.specs.declared.reader.Moments.{Moments}
use Rattle.vme_moments.specs.declared.reader.Reader.{Reader}
use Rattle.vme_moments.specs.Moments.{Reading, Said, behind_header, read_from_header, read_seen, seen_limit}
use Rattle.vme_moments.specs.Moments as said
use Rattle.vme_moments.specs.Reading.{LacksRoom, fault_of}

-- a reader between two bytes: no fault stands in what it has read
pub record IsSound (r : Reader) : Type 0 where
  pub part : IsPart r.part.items
  pub few : length r.seen.items ≤ seen_limit
  pub first_line : r.version ≡ None → r.line ≡ 1
  pub first_last : r.version ≡ None → r.last ≡ None
  pub first_seen : r.version ≡ None → r.seen.items ≡ []

-- what was seen, before others
abbrev pub after :
    List Seen → List Seen × Option said.MomentsFault → List Seen × Option said.MomentsFault
after seen others = (seen ++ others.0, others.1)

-- what further lines say, after what was seen before them
abbrev pub rest_at :
    Option Version → ℕ → Option ℕ → List Seen → List (List ℕ) × List ℕ → Reading
rest_at None n last seen s = read_from_header s.0 s.1
rest_at (Some version) n last seen s =
    behind_header (Some version) (after seen (read_seen n last s.0 s.1))

-- what the whole text says, if these bytes are left of it
abbrev pub rest_of : Reader → List ℕ → Reading
rest_of r bytes =
    rest_at r.version r.line r.last r.seen.items (split_lines (r.part.items ++ bytes))

-- the first fault of a text, or X6 at an edge before it
abbrev pub IsFault : Reading → MomentsFault → Type 0
IsFault r (Trace trace.Memory) = LacksRoom r.seen
IsFault r f = option_map fault_of r.fault ≡ Some f

-- A reader takes the line that stands in its part, which says this.
pub record SaysOn (s : Said) (old new : Reader) : Type 0 where
  pub version : new.version ≡ old.version
  pub line : new.line ≡ old.line
  pub part : new.part.items ≡ old.part.items
  pub last : new.last ≡ s.last
  pub seen : new.seen.items ≡ old.seen.items ++ s.seen
  pub few : length old.seen.items ≤ seen_limit → length new.seen.items ≤ seen_limit

-- there is no room for the edge that the line says
abbrev pub HasNoRoom : Said → Reader → MomentsFault → Type 0
HasNoRoom s old f = (0 < length s.seen)
    × (((f ≡ Trace trace.Memory) × (length old.seen.items < seen_limit))
    ⊎ ((f ≡ TooMany) × (seen_limit ≤ length old.seen.items)))

abbrev pub Says :
    Result Said said.MomentsFault → Reader → Reader → Result (Unit {0}) MomentsFault → Type 0
Says (Ok s) old new (Ok _) = SaysOn s old new
Says (Ok s) old new (Err f) = HasNoRoom s old f
Says (Err g) old new (Ok _) = ⊥
Says (Err g) old new (Err f) = fault_of g ≡ f

-- before the header line all bytes are kept
abbrev pub KeepsStart : Reader → List ℕ → Reader → Type 0
KeepsStart old bytes new =
    new.version ≡ None → (old.version ≡ None) × (new.part.items ≡ old.part.items ++ bytes)

-- A reader takes these bytes.
abbrev pub Takes : Reader → List ℕ → Reader → Result (Unit {0}) MomentsFault → Type 0
Takes old bytes new (Ok _) =
    IsSound new × ((more : List ℕ) → rest_of old (bytes ++ more) ≡ rest_of new more)
    × KeepsStart old bytes new
Takes old bytes new (Err f) = (more : List ℕ) → IsFault (rest_of old (bytes ++ more)) f

-- a text that says this ends so
abbrev pub Ends : Reading → Result Moments MomentsFault → Type 0
Ends r (Ok m) = (r.version ≡ Some m.version) × (r.seen ≡ m.seen.items) × (r.fault ≡ None)
Ends r (Err f) = IsFault r f
