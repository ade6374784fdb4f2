-- Two traces that are read side by side, as far as they were read.
use Rattle.std.specs.Prelude.{◌≡◌, ◌+◌, ℕ, Bool, true, false, not, List, length, Option, Some, None, Result, Ok, Err}
use Rattle.vme_model.specs.declared.signals.Version.{Version}
use Rattle.vme_model.specs.declared.signals.Edge.{Edge}
use Rattle.vme_trace.specs.declared.Fault.{Fault}
use Rattle.vme_reading.specs.declared.traces.Input.{Input}
use Rattle.vme_reading.specs.declared.pairs.Turn.{Turn}
use Rattle.vme_reading.specs.declared.pairs.Turn.TheVariants.{First, Second}
use Rattle.vme_reading.specs.Streams.{Streams}
use Rattle.vme_reading.specs.Begun.{HasCome}

-- whether more of a trace may come, by what its last read answered
abbrev pub goes_on : Result Bool Fault → Bool
goes_on (Ok more) = more
goes_on (Err f) = false

-- how many pieces may come at most, the last one without a read
abbrev pub turns_left : Result Bool Fault → ℕ → ℕ
turns_left (Ok true) reads = reads + 1
turns_left (Ok false) reads = reads
turns_left (Err f) reads = reads

-- Which trace is read next, if both may go on: the first, if it is wanted.
abbrev pub next_turn : Bool → Bool → Bool → Option Turn
next_turn true true second = Some First
next_turn false true false = Some First
next_turn false true true = Some Second
next_turn wanted false true = Some Second
next_turn wanted false false = None

-- One of the traces was read up to there without a fault, and its edges so far were counted.
pub record IsSide
    (from at : Option (List ℕ)) (version : Version) (es : List Edge) (count : ℕ) (input : Input)
    : Type 0 where
  pub came : HasCome from at version es input
  pub unfaulted : input.more ≡ Ok (goes_on input.more)
  pub counted : count ≡ length es

-- Both traces were read up to there, and the judge stands behind their edges.
pub record AreUnderWay
    {J : Type 0}
    (stands : Version → Version → List Edge → Bool → List Edge → Bool → J → Type 0)
    (first_count second_count : J → ℕ) (s t : Streams) (first second : Input) (judge : J)
    : Type 0 where
  pub v : Version
  pub w : Version
  pub es : List Edge
  pub fs : List Edge
  pub first_side : IsSide s.from s.to v es (first_count judge) first
  pub second_side : IsSide t.from t.to w fs (second_count judge) second
  pub stands_so : stands v w es (not (goes_on first.more)) fs (not (goes_on second.more)) judge
