-- What the engine `probe` writes and answers.
use Rattle.std.specs.Prelude.{◌≡◌, ◌⊎◌, ◌≤◌, ◌<◌, ◌++◌, ◌∷◌, [], ℕ, List, Option, Some, None, length, reverse, Result, Ok, Err}
use Rattle.vme_model.specs.declared.signals.Version.{Version}
use Rattle.vme_model.specs.Plan.{Plan}
use Rattle.vme_scenario.specs.Format.{scenario}
use Rattle.vme_scenario.specs.Errors.{IsErrorOf}
use Rattle.vme_trace.specs.declared.Fault.TheVariants as trace
use Rattle.vme_captures.specs.declared.signals.Change.{Change}
use Rattle.vme_captures.specs.declared.signals.Entry.{Entry}
use Rattle.vme_captures.specs.declared.signals.Entry.TheVariants as entry
use Rattle.vme_captures.specs.declared.CaptureFault.TheVariants.{Trace}
use Rattle.vme_captures.specs.Feeding.{IsFaultAfter}
use Rattle.vme_captures.specs.Reading.{Reading, read_of}
use Rattle.vme_reading.specs.declared.Status.{Status}
use Rattle.vme_reading.specs.declared.Status.TheVariants.{Done, SomeRefused, Limit}
use Rattle.vme_reading.specs.declared.EngineFault.TheVariants as engine
use Rattle.vme_reading.specs.Outcomes.{scenario_limit}
use Rattle.vme_reading.specs.Streams.{Streams, HasConsumed, IsInput, IsReadOut, ReadNothing, Wrote, WroteFront, WroteNothing}
use Rattle.vme_samples.specs.declared.samples.SeenChange.{SeenChange}
use Rattle.vme_probe.specs.declared.judging.Known.{Known}
use Rattle.vme_probe.specs.declared.probes.ProbeFault.{ProbeFault}
use Rattle.vme_probe.specs.declared.probes.ProbeFault.TheVariants as fault
use Rattle.vme_probe.specs.Knowing.{HasLines, IsOverfull, IsStoppedAtEnd, IsUnbegun, IsWhole, Judged, StopsAt}

abbrev pub Answer : Type 0
Answer = Result Status ProbeFault

-- The lines of the changes behind what was said, whose header line names this version, if any. Here
-- and below `skew` is what `--skew` says.
abbrev pub JudgedBy :
    Plan → Option ℕ → Option Version → List Entry → Option Known → List SeenChange → List ℕ
    → Type 0
JudgedBy p skew None said known waits text = (known ≡ None) × (waits ≡ []) × (text ≡ [])
JudgedBy p skew (Some version) said known waits text =
    Judged p version skew said known waits text

-- All changes of a whole capture may have been made, and that is written of it.
pub record IsPossible (p : Plan) (skew : Option ℕ) (r : Reading) (text : List ℕ) : Type 0 where
  pub version : Version
  pub named : r.version ≡ Some version
  pub whole : r.fault ≡ None
  pub said : List Entry
  pub are : r.entries ≡ reverse said
  pub is : IsWhole p version skew said text

-- The lines of all changes of a whole capture.
pub record HasAllLines (p : Plan) (skew : Option ℕ) (r : Reading) (text : List ℕ) : Type 0 where
  pub version : Version
  pub named : r.version ≡ Some version
  pub whole : r.fault ≡ None
  pub said : List Entry
  pub are : r.entries ≡ reverse said
  pub after : Known
  pub has : HasLines p version skew said after text

-- The levels of a whole head without a moment are those of no bus that keeps the rules; or the last
-- sample of a whole capture is impossible.
pub record IsImpossibleAtEnd (p : Plan) (skew : Option ℕ) (r : Reading)
    (text : List ℕ) : Type 0 where
  pub version : Version
  pub named : r.version ≡ Some version
  pub whole : r.fault ≡ None
  pub said : List Entry
  pub are : r.entries ≡ reverse said
  pub is : IsUnbegun p version skew said text ⊎ IsStoppedAtEnd p version skew said text

-- What is said next is impossible, or the sample that is complete before it, and that is written.
pub record StopsIn (p : Plan) (skew : Option ℕ) (r : Reading) (text : List ℕ) : Type 0 where
  pub version : Version
  pub named : r.version ≡ Some version
  pub said : List Entry
  pub next : Entry
  pub others : List Entry
  pub are : r.entries ≡ reverse said ++ next ∷ others
  pub stops : StopsAt p version skew said next text

-- What is said next is a 13th change of a sample, and that is written of what was judged before.
pub record IsOverfullIn (p : Plan) (skew : Option ℕ) (r : Reading) (text : List ℕ) : Type 0 where
  pub version : Version
  pub named : r.version ≡ Some version
  pub said : List Entry
  pub next : Change
  pub others : List Entry
  pub are : r.entries ≡ reverse said ++ entry.Change next ∷ others
  pub is : IsOverfull p version skew said next text

-- The lines of all changes behind what was said first that were judged.
pub record IsJudged (p : Plan) (skew : Option ℕ) (r : Reading) (said : List Entry)
    (text : List ℕ) : Type 0 where
  pub others : List Entry
  pub are : r.entries ≡ reverse said ++ others
  pub known : Option Known
  pub waits : List SeenChange
  pub judged : JudgedBy p skew r.version said known waits text

-- a text that is to be written of what was read, at some place or at the end
abbrev pub IsToWrite : Plan → Option ℕ → Reading → List ℕ → Type 0
IsToWrite p skew r text =
    ((said : List Entry) × IsJudged p skew r said text) ⊎ StopsIn p skew r text
    ⊎ IsImpossibleAtEnd p skew r text ⊎ HasAllLines p skew r text ⊎ IsPossible p skew r text

-- What `probe` leaves of a capture on a plan. Nothing is read behind what is impossible. At a fault
-- of the capture the lines of the changes that were judged before it are written; X5 comes behind
-- what was read, X6 at a pin, and F5 at the 13th change of a sample. At X8 a prefix of a text was
-- written.
abbrev pub Probes : Plan → Option ℕ → List ℕ → Streams → Answer → Type 0
Probes p skew bytes s (Ok Done) =
    IsReadOut s × (text : List ℕ) × IsPossible p skew (read_of p bytes) text × Wrote s text
Probes p skew bytes s (Ok SomeRefused) =
    (read : List ℕ) × HasConsumed s read × (text : List ℕ)
    × (StopsIn p skew (read_of p read) text
    ⊎ (IsReadOut s × IsImpossibleAtEnd p skew (read_of p bytes) text)) × Wrote s text
Probes p skew bytes s (Ok Limit) = ⊥
Probes p skew bytes s (Err (fault.Capture (Trace trace.Read))) =
    (read : List ℕ) × HasConsumed s read × (said : List Entry) × (text : List ℕ)
    × ((read_of p read).entries ≡ reverse said) × IsJudged p skew (read_of p bytes) said text
    × Wrote s text
Probes p skew bytes s (Err (fault.Capture f)) =
    (said : List Entry) × (text : List ℕ) × IsFaultAfter (read_of p bytes) said f
    × IsJudged p skew (read_of p bytes) said text × Wrote s text
Probes p skew bytes s (Err fault.TooManyOrders) =
    (text : List ℕ) × IsOverfullIn p skew (read_of p bytes) text × Wrote s text
Probes p skew bytes s (Err (fault.Engine (engine.Trace trace.Write))) =
    (text : List ℕ) × IsToWrite p skew (read_of p bytes) text × WroteFront s text
Probes p skew bytes s (Err (fault.Engine _)) = ⊥

-- a judgement of the whole input
abbrev pub ProbesInput : Option ℕ → Streams → Plan → Answer → Type 0
ProbesInput skew s p answer =
    (bytes : List ℕ) × IsInput s.from bytes × Probes p skew bytes s answer

-- the same, or F3: there was no memory for samples, and nothing was done
abbrev pub HasRoom : Answer → Option ℕ → Type 0 → Type 0 → Type 0
HasRoom (Err (fault.Engine engine.NoMemory)) (Some skew) nothing Runs = nothing
HasRoom answer skew nothing Runs = Runs

abbrev pub ProbesText : Option ℕ → Streams → Plan → Answer → Type 0
ProbesText skew s p answer =
    HasRoom answer skew (ReadNothing s × WroteNothing s) (ProbesInput skew s p answer)

-- An engine that is lent the text of a scenario: the first fault is answered and `nothing` is
-- done, or it runs on the plan.
abbrev pub LentText : List ℕ → Type 0 → (Plan → Answer → Type 0) → Answer → Type 0
LentText text nothing Runs (Err (fault.Engine engine.TooLong)) =
    (scenario_limit < length text) × nothing
LentText text nothing Runs (Err (fault.Engine (engine.Scenario e))) =
    (length text ≤ scenario_limit) × IsErrorOf (scenario text) e × nothing
LentText text nothing Runs answer =
    (p : Plan) × (length text ≤ scenario_limit) × (scenario text ≡ Ok p) × Runs p answer
