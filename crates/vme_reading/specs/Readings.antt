-- What the one reading of a trace leaves, whatever its judge does with the edges.
use Rattle.std.specs.Prelude.{◌≡◌, ◌<◌, ◌≤◌, ◌++◌, ℕ, Bool, true, List, length, Option, Some, None, Result, Ok, Err}
use Rattle.vme_model.specs.declared.signals.Version.{Version}
use Rattle.vme_model.specs.declared.signals.Edge.{Edge}
use Rattle.vme_model.specs.Plan.{Plan}
use Rattle.vme_scenario.specs.Format.{scenario}
use Rattle.vme_scenario.specs.Errors.{IsErrorOf}
use Rattle.vme_trace.specs.declared.Fault.{Fault}
use Rattle.vme_trace.specs.Reading as trace
use Rattle.vme_reading.specs.declared.EngineFault.{EngineFault}
use Rattle.vme_reading.specs.declared.EngineFault.TheVariants as fault
use Rattle.vme_reading.specs.Streams.{Streams, streams, IsInput}
use Rattle.vme_reading.specs.Outcomes.{scenario_limit}
use Rattle.vme_reading.specs.Steps.{Comes}
use Rattle.vme_reading.specs.Pieces.{Came}

-- what a judge leaves of a trace, and answers
abbrev pub Leaving : Type 0 → Type 1
Leaving A = List ℕ → Streams → Result A Fault → Type 0

-- It has no answer only if the trace goes on, and has counted all edges then.
abbrev pub GoesOn : {A : Type 0} → Result Bool Fault → ℕ → ℕ → Result (Option A) Fault → Type 0
GoesOn more count all (Ok None) = (more ≡ Ok true) × (count ≡ all)
GoesOn more count all answer = Unit {0}

-- It leaves that of each trace of this version of which these edges came, the last read having
-- answered so.
abbrev pub LeavesNow :
    {A : Type 0} → Leaving A → Version → List Edge → Result Bool Fault
    → Option (List ℕ) → Option (List ℕ) → Result A Fault → Type 0
LeavesNow leaves v es more old new answer =
    (trace : List ℕ) (from to : Option (List ℕ)) → Came v trace from to es more
    → leaves trace (streams from to old new) answer

-- What it does with the edges since it began: without an answer, it stands behind them.
abbrev pub Takes :
    {S A : Type 0} → (List Edge → Option (List ℕ) → Option (List ℕ) → S → Type 0) → Leaving A
    → Version → List Edge → Result Bool Fault → Option (List ℕ) → Option (List ℕ)
    → S → Result (Option A) Fault → Type 0
Takes stands leaves v es more old new now (Ok None) = stands es old new now
Takes stands leaves v es more old new now (Ok (Some a)) = LeavesNow leaves v es more old new (Ok a)
Takes stands leaves v es more old new now (Err f) = LeavesNow leaves v es more old new (Err f)

-- If a trace is read on after a first read, it leaves that of the whole trace.
abbrev pub ReadsOn :
    {A : Type 0} → Leaving A → Version → trace.ReaderState → List Edge → Result Bool Fault → ℕ
    → Option (List ℕ) → Option (List ℕ) → Option (List ℕ) → Option (List ℕ)
    → Result A Fault → Type 0
ReadsOn leaves v reader es first left at to old new answer =
    (from : Option (List ℕ)) (head : List ℕ)
    → reader.version ≡ Some v → Comes from at head left reader es first
    → (rest : List ℕ) × IsInput from (head ++ rest)
    × leaves (head ++ rest) (streams from to old new) answer

-- what a reading leaves of a whole input, as a trace
abbrev pub ReadsInput : {A : Type 0} → Leaving A → Streams → Result A Fault → Type 0
ReadsInput leaves s answer = (trace : List ℕ) × IsInput s.from trace × leaves trace s answer

-- What a reading leaves on the plan of a scenario's text. Without a plan, or without memory,
-- `nothing` is done.
abbrev pub ReadsLent :
    {A : Type 0} → List ℕ → Type 0 → (Plan → Result A Fault → Type 0)
    → Result A EngineFault → Type 0
ReadsLent text nothing Reads (Ok a) =
    (p : Plan) × (length text ≤ scenario_limit) × (scenario text ≡ Ok p) × Reads p (Ok a)
ReadsLent text nothing Reads (Err (fault.Trace f)) =
    (p : Plan) × (length text ≤ scenario_limit) × (scenario text ≡ Ok p) × Reads p (Err f)
ReadsLent text nothing Reads (Err fault.NoMemory) =
    (p : Plan) × (length text ≤ scenario_limit) × (scenario text ≡ Ok p) × nothing
ReadsLent text nothing Reads (Err fault.TooLong) = (scenario_limit < length text) × nothing
ReadsLent text nothing Reads (Err (fault.Scenario e)) =
    (length text ≤ scenario_limit) × IsErrorOf (scenario text) e × nothing
ReadsLent text nothing Reads (Err _) = ⊥
