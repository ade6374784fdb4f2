-- What an engine writes and answers.
use Rattle.std.specs.Prelude.{◌≡◌, ◌==◌, ◌<◌, ◌≤◌, ◌+◌, ◌-◌, ◌++◌, ◌∷◌, [], ℕ, List, length, reverse, codes, decimal, Option, Some, None, option_map, Result, Ok, Err, if◌then◌else◌}
use Rattle.vme_model.specs.declared.refusals.Refused.{Refused}
use Rattle.vme_model.specs.declared.signals.Version.{Version}
use Rattle.vme_model.specs.declared.signals.Edge.{Edge}
use Rattle.vme_model.specs.Plan.{Plan}
use Rattle.vme_model.specs.History.{in_order}
use Rattle.vme_model.specs.Verdict.{State, Judgement, verdict, after, IsLegal}
use Rattle.vme_model.specs.Text.{Reading, read_of, text}
use Rattle.vme_model.specs.Report.{report, verdict_lines, verdict_text, accepted_count, at_power_up, trace_limit}
use Rattle.vme_model.specs.Offers.{rounds}
use Rattle.vme_trace.specs.declared.Fault.{Fault}
use Rattle.vme_trace.specs.declared.Fault.TheVariants.{Header, Line, TooLong, CutOff, Read, Memory, Failed, Write}
use Rattle.vme_trace.specs.Reading.{fault_of}
use Rattle.vme_scenario.specs.Format.{scenario}
use Rattle.vme_scenario.specs.Errors.{IsErrorOf}
use Rattle.vme_engines.specs.declared.Status.{Status}
use Rattle.vme_engines.specs.declared.Status.TheVariants.{Done, SomeRefused, Limit}
use Rattle.vme_engines.specs.declared.EngineFault.{EngineFault}
use Rattle.vme_engines.specs.declared.EngineFault.TheVariants as fault
use Rattle.vme_engines.specs.Streams.{Streams, IsInput, HasRead, IsReadOut, Wrote, WroteFront, WroteNothing}

abbrev pub Answer : Type 0
Answer = Result Status EngineFault

-- the greatest scenario, in bytes (profile)
abbrev pub scenario_limit : ℕ
scenario_limit = 1048576

-- An engine that is lent the text of a scenario: the first fault is answered and `nothing` is done, or it runs on the plan.
abbrev pub Lent : List ℕ → Type 0 → (Plan → Answer → Type 0) → Answer → Type 0
Lent text nothing Runs (Err fault.TooLong) = (scenario_limit < length text) × nothing
Lent text nothing Runs (Err (fault.Scenario e)) = (length text ≤ scenario_limit) × IsErrorOf (scenario text) e × nothing
Lent text nothing Runs (Err fault.NoMemory) = (p : Plan) × (length text ≤ scenario_limit) × (scenario text ≡ Ok p) × nothing
Lent text nothing Runs (Err (fault.Trace f)) = (p : Plan) × (length text ≤ scenario_limit) × (scenario text ≡ Ok p) × Runs p (Err (fault.Trace f))
Lent text nothing Runs (Err fault.CannotRead) = ⊥
Lent text nothing Runs (Ok status) = (p : Plan) × (length text ≤ scenario_limit) × (scenario text ≡ Ok p) × Runs p (Ok status)

-- ---- replay

-- the backplane on which a trace of that version is judged
abbrev pub bench : Plan → Version → State
bench p version = at_power_up version p trace_limit

-- the verdict lines of edges, whose trace names its version before the first of them
abbrev pub lines_of : Plan → Option Version → List Edge → List ℕ
lines_of p None es = []
lines_of p (Some version) es = verdict_lines (bench p version) 1 es

abbrev pub refused_count : Plan → Option Version → List Edge → ℕ
refused_count p None es = 0
refused_count p (Some version) es = length es - accepted_count (bench p version) es

abbrev pub status_of : Plan → Reading → Status
status_of p r = if refused_count p r.version r.edges == 0 then Done else SomeRefused

-- a trace with this fault
abbrev pub HasFault : List ℕ → Fault → Type 0
HasFault trace f = option_map fault_of (read_of trace).fault ≡ Some f

-- What a replay of a trace leaves at a fault, where the trace stands in the input behind a text. X1 to X4: the verdicts
-- on the edges before it. X5: on the edges of what was read. X6: on the edges that found room. X8: a front of the report.
abbrev pub ReplayStops : Plan → List ℕ → List ℕ → Streams → Fault → Type 0
ReplayStops p text trace s Header = HasFault trace Header × Wrote s (report p trace)
ReplayStops p text trace s (Line n) = HasFault trace (Line n) × Wrote s (report p trace)
ReplayStops p text trace s (TooLong n) = HasFault trace (TooLong n) × Wrote s (report p trace)
ReplayStops p text trace s CutOff = HasFault trace CutOff × Wrote s (report p trace)
ReplayStops p text trace s Read = (bytes : List ℕ) × HasRead s (text ++ bytes) × Wrote s (lines_of p (read_of bytes).version (read_of bytes).edges)
ReplayStops p text trace s Memory = (es : List Edge) × (others : List Edge) × ((read_of trace).edges ≡ es ++ others) × Wrote s (lines_of p (read_of trace).version es)
ReplayStops p text trace s Failed = ⊥
ReplayStops p text trace s Write = WroteFront s (report p trace)

-- What a replay of a trace on a plan leaves: without a fault, the whole report.
abbrev pub Replays : Plan → List ℕ → List ℕ → Streams → Answer → Type 0
Replays p text trace s (Ok status) = ((read_of trace).fault ≡ None) × IsReadOut s × Wrote s (report p trace) × (status ≡ status_of p (read_of trace))
Replays p text trace s (Err (fault.Trace f)) = ReplayStops p text trace s f
Replays p text trace s (Err _) = ⊥

-- a replay of the whole input
abbrev pub ReplaysInput : Streams → Plan → Answer → Type 0
ReplaysInput s p answer = (trace : List ℕ) × IsInput s.from trace × Replays p [] trace s answer

-- ---- check

abbrev pub or_refusal : ℕ → Judgement → Option (ℕ × Refused) → Option (ℕ × Refused)
or_refusal n (Ok _) later = later
or_refusal n (Err refused) later = Some (n, refused)

-- the first edge that is refused, its number counted from n, and why
abbrev pub first_refusal : ℕ → State → List Edge → Option (ℕ × Refused)
first_refusal n b [] = None
first_refusal n b (e ∷ es) = or_refusal n (verdict b e) (first_refusal (n + 1) (after b e) es)

abbrev pub first_refused : Plan → Option Version → List Edge → Option (ℕ × Refused)
first_refused p None es = None
first_refused p (Some version) es = first_refusal 1 (bench p version) es

-- what is written: the first refusal, or how many edges are all legal
abbrev pub finding : Option (ℕ × Refused) → ℕ → List ℕ
finding None n = (codes "legal " ++ decimal n) ++ 10 ∷ []
finding (Some (n, refused)) _ = (((codes "illegal " ++ decimal n) ++ codes " ") ++ verdict_text (Err refused)) ++ 10 ∷ []

abbrev pub finding_on : Plan → Reading → List ℕ
finding_on p r = finding (first_refused p r.version r.edges) (length r.edges)

abbrev pub IsUnrefused : Plan → Reading → Type 0
IsUnrefused p r = first_refused p r.version r.edges ≡ None

-- a trace whose edges make a legal history
pub record IsLegalTrace (p : Plan) (r : Reading) : Type 0 where
  pub version : Version
  pub named : r.version ≡ Some version
  pub legal : IsLegal version p (reverse r.edges)
  pub fits : length r.edges ≤ trace_limit

-- What a check leaves at a fault: nothing is written, and no edge before it was refused.
abbrev pub CheckStops : Plan → List ℕ → Streams → Fault → Type 0
CheckStops p trace s Header = HasFault trace Header × IsUnrefused p (read_of trace) × WroteNothing s
CheckStops p trace s (Line n) = HasFault trace (Line n) × IsUnrefused p (read_of trace) × WroteNothing s
CheckStops p trace s (TooLong n) = HasFault trace (TooLong n) × IsUnrefused p (read_of trace) × WroteNothing s
CheckStops p trace s CutOff = HasFault trace CutOff × IsUnrefused p (read_of trace) × WroteNothing s
CheckStops p trace s Read = (bytes : List ℕ) × HasRead s bytes × IsUnrefused p (read_of bytes) × WroteNothing s
CheckStops p trace s Memory = (es : List Edge) × (others : List Edge) × ((read_of trace).edges ≡ es ++ others) × (first_refused p (read_of trace).version es ≡ None) × WroteNothing s
CheckStops p trace s Failed = ⊥
CheckStops p trace s Write = WroteFront s (finding_on p (read_of trace))

-- What a check of a trace on a plan leaves.
abbrev pub Checks : Plan → List ℕ → Streams → Answer → Type 0
Checks p trace s (Ok Done) = IsUnrefused p (read_of trace) × ((read_of trace).fault ≡ None) × IsLegalTrace p (read_of trace) × IsReadOut s × Wrote s (finding_on p (read_of trace))
Checks p trace s (Ok SomeRefused) = (n : ℕ) × (refused : Refused) × (first_refused p (read_of trace).version (read_of trace).edges ≡ Some (n, refused)) × Wrote s (finding_on p (read_of trace))
Checks p trace s (Ok Limit) = ⊥
Checks p trace s (Err (fault.Trace f)) = CheckStops p trace s f
Checks p trace s (Err _) = ⊥

abbrev pub ChecksInput : Streams → Plan → Answer → Type 0
ChecksInput s p answer = (trace : List ℕ) × IsInput s.from trace × Checks p trace s answer

-- ---- drive

-- the edges that the drivers make in turn, at most n of them
abbrev pub driven : Plan → Version → ℕ → List Edge
driven p version n = (rounds (bench p version) n).history

-- What a drive leaves: the trace of a legal history.
abbrev pub Drives : Version → ℕ → Option (List ℕ) → Option (List ℕ) → Plan → Answer → Type 0
Drives version n old new p (Ok status) =
    Wrote (record { from = None; to = None; old = old; new = new }) (text version (in_order (driven p version n)))
    × IsLegal version p (driven p version n) × (status ≡ (if length (driven p version n) == n then Limit else Done))
Drives version n old new p (Err (fault.Trace Write)) = WroteFront (record { from = None; to = None; old = old; new = new }) (text version (in_order (driven p version n)))
Drives version n old new p (Err _) = ⊥
