-- What is read of moments, and what is answered to them.
use Rattle.std.specs.Prelude.{◌≡◌, ◌⊎◌, ◌<◌, ◌++◌, ◌∷◌, [], List, ℕ, Option, Some, None, length, option_map, Result, Ok, Err}
use Rattle.std.specs.Io.KnownBytes.{Consumes, IsAtEnd}
use Rattle.vme_model.specs.Text.{cut_off}
use Rattle.vme_trace.specs.declared.Fault.TheVariants as trace
use Rattle.vme_trace.specs.Reading.{fault_of as trace_fault_of}
use Rattle.vme_moments.specs.declared.Seen.{Seen}
use Rattle.vme_moments.specs.declared.MomentsFault.{MomentsFault}
use Rattle.vme_moments.specs.declared.MomentsFault.TheVariants.{Trace, Earlier, Momentless, TooMany}
use Rattle.vme_moments.specs.declared.reader.Moments.{Moments}
use Rattle.vme_moments.specs.Moments as said

-- a fault of a text as the reader answers it
abbrev pub fault_of : said.MomentsFault → MomentsFault
fault_of (said.of_trace f) = Trace (trace_fault_of f)
fault_of (said.earlier n) = Earlier n
fault_of (said.momentless n) = Momentless n
fault_of said.too_many = TooMany

-- the bytes are moments of this version, with these edges and without a fault
pub record Say (bytes : List ℕ) (m : Moments) : Type 0 where
  pub version : (said.read_of bytes).version ≡ Some m.version
  pub seen : (said.read_of bytes).seen ≡ m.seen.items
  pub whole : (said.read_of bytes).fault ≡ None

-- one of the edges that were seen found no room, though fewer than may be taken stand before it
pub record LacksRoom (seen : List Seen) : Type 0 where
  pub kept : List Seen
  pub next : Seen
  pub others : List Seen
  pub are : seen ≡ kept ++ next ∷ others
  pub few : length kept < said.seen_limit

-- the first fault of the bytes, or X6 at an edge before it
abbrev pub IsFaultOf : List ℕ → MomentsFault → Type 0
IsFaultOf bytes (Trace trace.Memory) = LacksRoom (said.read_of bytes).seen
IsFaultOf bytes f = option_map fault_of (said.read_of bytes).fault ≡ Some f

-- Moments that begin with these bytes can go on, so that none of X1 to X3, X10, X17 and F6 stands
-- in them: they are whole moments, ones that are cut off, or nothing.
abbrev pub CanGoOn : List ℕ → Type 0
CanGoOn bytes =
    ((said.read_of bytes).fault ≡ None)
    ⊎ ((said.read_of bytes).fault ≡ Some (said.of_trace cut_off))
    ⊎ (bytes ≡ [])

-- these are all the bytes that the input had to give
abbrev pub IsInput : Option (List ℕ) → List ℕ → Type 0
IsInput None all = Unit {0}
IsInput (Some bytes) all = bytes ≡ all

-- The whole input was read and says this; or a read failed, and what was read can go on; or the
-- input's first fault was met, or there was no memory for one of its edges.
abbrev pub ReadsMoments :
    Option (List ℕ) → Option (List ℕ) → Result Moments MomentsFault → Type 0
ReadsMoments from to (Ok m) = (bytes : List ℕ) × IsInput from bytes × IsAtEnd to × Say bytes m
ReadsMoments from to (Err (Trace trace.Read)) =
    (bytes : List ℕ) × Consumes from to bytes × CanGoOn bytes
ReadsMoments from to (Err f) = (bytes : List ℕ) × IsInput from bytes × IsFaultOf bytes f
