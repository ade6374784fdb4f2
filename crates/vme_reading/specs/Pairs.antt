-- What is read of two traces side by side.
use Rattle.std.specs.Prelude.{◌≡◌, ◌≤◌, ℕ, List, length, Option, Some, None, Result, Ok, Err}
use Rattle.vme_model.specs.declared.signals.Version.{Version}
use Rattle.vme_model.specs.declared.signals.Edge.{Edge}
use Rattle.vme_model.specs.Plan.{Plan}
use Rattle.vme_model.specs.Text.{read_of}
use Rattle.vme_scenario.specs.Format.{scenario}
use Rattle.vme_trace.specs.declared.Fault.{Fault}
use Rattle.vme_reading.specs.declared.pairs.PairFault.{PairFault}
use Rattle.vme_reading.specs.declared.pairs.PairFault.TheVariants.{Engine, First, Second}
use Rattle.vme_reading.specs.Streams.{Streams, IsInput, IsReadOut}
use Rattle.vme_reading.specs.Outcomes.{LentAsking, scenario_limit}
use Rattle.vme_reading.specs.Waiting.{StopsWaiting}

-- A whole trace without fault, of this version and with these edges, was read to its end.
pub record IsReadWhole (s : Streams) (version : Version) (es : List Edge) : Type 0 where
  pub trace : List ℕ
  pub input : IsInput s.from trace
  pub read_out : IsReadOut s
  pub named : (read_of trace).version ≡ Some version
  pub edges : (read_of trace).edges ≡ es
  pub whole : (read_of trace).fault ≡ None

-- The trace has this fault. X5: no more of it could be read. X6: no more of it could be kept.
abbrev pub MeetsFault : Streams → Fault → Type 0
MeetsFault s f =
    (trace : List ℕ) × IsInput s.from trace
    × StopsWaiting (λ (version : Option Version) (es : List Edge). Unit {0}) trace s f

-- One of two traces has a fault. If that is the second, the first has none.
abbrev pub EitherMeets : Streams → Streams → PairFault → Type 0
EitherMeets s t (First f) = MeetsFault s f
EitherMeets s t (Second f) =
    MeetsFault t f × (v : Version) × (es : List Edge) × IsReadWhole s v es
EitherMeets s t (Engine f) = ⊥

-- A judge stands behind all edges of two whole traces, or one of them has a fault.
abbrev pub ReadsPair :
    {J : Type 0} → (Version → Version → List Edge → List Edge → J → Type 0) → Streams → Streams
    → Result J PairFault → Type 0
ReadsPair stands s t (Ok judge) =
    (v : Version) × (w : Version) × (es : List Edge) × (fs : List Edge)
    × IsReadWhole s v es × IsReadWhole t w fs × stands v w es fs judge
ReadsPair stands s t (Err f) = EitherMeets s t f

-- What is read of two traces on the plan of a scenario's text. Without a plan, or without memory,
-- `nothing` is done.
abbrev pub LentPair :
    {J : Type 0} → List ℕ → Type 0 → (Plan → Result J PairFault → Type 0)
    → Result J PairFault → Type 0
LentPair text nothing Reads (Err (Engine f)) = LentAsking text nothing (λ p answer. ⊥) (Err f)
LentPair text nothing Reads answer =
    (p : Plan) × (length text ≤ scenario_limit) × (scenario text ≡ Ok p) × Reads p answer
