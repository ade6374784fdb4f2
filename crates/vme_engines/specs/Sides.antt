-- One of two traces that are read side by side, as far as it was read.
use Rattle.std.specs.Prelude.{◌≡◌, [], ◌+◌, ℕ, Bool, true, false, not, List, length, Option, Some, None, Result, Ok, Err}
use Rattle.vme_model.specs.declared.signals.Version.{Version}
use Rattle.vme_model.specs.declared.signals.Edge.{Edge}
use Rattle.vme_trace.specs.declared.Fault.{Fault}
use Rattle.vme_engines.specs.declared.traces.Input.{Input}
use Rattle.vme_engines.specs.declared.pairs.Turn.{Turn}
use Rattle.vme_engines.specs.declared.pairs.Turn.TheVariants.{First, Second}
use Rattle.vme_engines.specs.Streams.{Streams}
use Rattle.vme_engines.specs.Steps.{Comes}

-- The trace was read up to there: it is of this version, and these are its edges so far.
pub record HasCome
    (from at : Option (List ℕ)) (version : Version) (es : List Edge) (input : Input)
    : Type 0 where
  pub known : input.reader.version ≡ Some version
  pub came : Comes from at [] input.reads input.reader es input.more

-- whether more of a trace may come, by what its last read answered
abbrev pub goes_on : Result Bool Fault → Bool
goes_on (Ok more) = more
goes_on (Err f) = false

-- whether a trace ended without fault, by what its last read answered
abbrev pub has_ended : Result Bool Fault → Bool
has_ended (Ok more) = not more
has_ended (Err f) = false

-- how many pieces may come at most, the last one without a read
abbrev pub turns_left : Result Bool Fault → ℕ → ℕ
turns_left (Ok true) reads = reads + 1
turns_left (Ok false) reads = reads
turns_left (Err f) reads = reads

-- Which trace is read next, if both may go on: the first, if it is wanted.
abbrev pub next_turn : Bool → Bool → Bool → Option Turn
next_turn true true second = Some First
next_turn false true false = Some First
next_turn false true true = Some Second
next_turn wanted false true = Some Second
next_turn wanted false false = None

-- Both traces were read up to there, and the judge stands behind their edges.
pub record AreUnderWay
    {J : Type 0} (stands : Version → Version → List Edge → Bool → List Edge → J → Type 0)
    (first_count second_count : J → ℕ) (s t : Streams) (first second : Input) (judge : J)
    : Type 0 where
  pub v : Version
  pub w : Version
  pub es : List Edge
  pub fs : List Edge
  pub first_came : HasCome s.from s.to v es first
  pub second_came : HasCome t.from t.to w fs second
  pub first_whole : first.more ≡ Ok (goes_on first.more)
  pub second_whole : second.more ≡ Ok (goes_on second.more)
  pub first_counted : first_count judge ≡ length es
  pub second_counted : second_count judge ≡ length fs
  pub stands_so : stands v w es (has_ended first.more) fs judge
