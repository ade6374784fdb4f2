-- What an engine writes and answers.
use Rattle.std.specs.Prelude.{◌≡◌, ◌⊎◌, ◌==◌, ◌<◌, ◌≤◌, ◌+◌, ◌-◌, ◌++◌, ◌∷◌, [], ℕ, List, length, Option, Some, None, option_map, Result, Ok, Err, if◌then◌else◌}
use Rattle.vme_model.specs.declared.signals.Version.{Version}
use Rattle.vme_model.specs.declared.signals.Edge.{Edge}
use Rattle.vme_model.specs.Plan.{Plan}
use Rattle.vme_model.specs.Verdict.{State, after}
use Rattle.vme_model.specs.Why.{edge_verdict}
use Rattle.vme_model.specs.Text.{Reading, cut_off, read_of}
use Rattle.vme_model.specs.Report.{verdict_lines, closing, accepted_count, at_power_up, trace_limit}
use Rattle.vme_trace.specs.declared.Fault.{Fault}
use Rattle.vme_trace.specs.declared.Fault.TheVariants.{Header, Line, TooLong, CutOff, Read, Memory, Failed, Write}
use Rattle.vme_trace.specs.Reading.{fault_of}
use Rattle.vme_scenario.specs.Format.{scenario}
use Rattle.vme_scenario.specs.Errors.{IsErrorOf}
use Rattle.vme_reading.specs.declared.LineForm.{LineForm}
use Rattle.vme_reading.specs.declared.LineForm.TheVariants.{Short, Full}
use Rattle.vme_reading.specs.declared.Status.{Status}
use Rattle.vme_reading.specs.declared.Status.TheVariants.{Done, SomeRefused}
use Rattle.vme_reading.specs.declared.EngineFault.{EngineFault}
use Rattle.vme_reading.specs.declared.EngineFault.TheVariants as fault
use Rattle.vme_reading.specs.Streams.{Streams, IsInput, HasConsumed, IsReadOut, Wrote, WroteFront}

abbrev pub Answer : Type 0
Answer = Result Status EngineFault

-- the greatest scenario, in bytes (profile)
abbrev pub scenario_limit : ℕ
scenario_limit = 1048576

-- An engine that is lent the text of a scenario: the first fault is answered and `nothing` is
-- done, or it runs on the plan. It asks for no memory of its own, so that it never answers F3.
abbrev pub Lent : List ℕ → Type 0 → (Plan → Answer → Type 0) → Answer → Type 0
Lent text nothing Runs (Err fault.TooLong) = (scenario_limit < length text) × nothing
Lent text nothing Runs (Err (fault.Scenario e)) =
    (length text ≤ scenario_limit) × IsErrorOf (scenario text) e × nothing
Lent text nothing Runs (Err fault.NoMemory) = ⊥
Lent text nothing Runs (Err (fault.Trace f)) =
    (p : Plan) × (length text ≤ scenario_limit) × (scenario text ≡ Ok p)
    × Runs p (Err (fault.Trace f))
Lent text nothing Runs (Err (fault.Beyond edges)) =
    (p : Plan) × (length text ≤ scenario_limit) × (scenario text ≡ Ok p)
    × Runs p (Err (fault.Beyond edges))
Lent text nothing Runs (Err fault.CannotRead) = ⊥
Lent text nothing Runs (Ok status) =
    (p : Plan) × (length text ≤ scenario_limit) × (scenario text ≡ Ok p) × Runs p (Ok status)

-- What an engine does on the plan of a scenario's text if it asks for memory once the scenario has
-- its plan: if that is refused, it answers F3, and `nothing` is done. No clause can say that memory
-- was refused, since the allocator says nothing by itself.
abbrev pub LentAsking : List ℕ → Type 0 → (Plan → Answer → Type 0) → Answer → Type 0
LentAsking text nothing Runs (Err fault.NoMemory) =
    (p : Plan) × (length text ≤ scenario_limit) × (scenario text ≡ Ok p) × nothing
LentAsking text nothing Runs answer = Lent text nothing Runs answer

-- the backplane on which a trace of that version is judged
abbrev pub bench : Plan → Version → State
bench p version = at_power_up version p trace_limit

-- the full line of each edge, from the n-th on: its number, the edge, and its verdict on what was
-- kept before it
abbrev pub full_lines : State → ℕ → List Edge → List ℕ
full_lines b n [] = []
full_lines b n (e ∷ es) = edge_verdict n b e ++ full_lines (after b e) (n + 1) es

-- the line of each edge in one of the forms: a short line does not spell the edge
abbrev pub form_lines : LineForm → State → ℕ → List Edge → List ℕ
form_lines Short b n es = verdict_lines b n es
form_lines Full b n es = full_lines b n es

-- the lines of edges, whose trace names its version before the first of them
abbrev pub lines_of : LineForm → Plan → Option Version → List Edge → List ℕ
lines_of form p None es = []
lines_of form p (Some version) es = form_lines form (bench p version) 1 es

-- the report on what was read: a line for each edge, and the closing line after a whole trace
abbrev pub report_of : LineForm → Plan → Option Version → Reading → List ℕ
report_of form p None r = []
report_of form p (Some version) r =
    form_lines form (bench p version) 1 r.edges ++ closing r.fault (bench p version) r.edges

-- the report on the trace that the bytes spell, on a plan
abbrev pub report : LineForm → Plan → List ℕ → List ℕ
report form p bytes = report_of form p (read_of bytes).version (read_of bytes)

abbrev pub refused_count : Plan → Option Version → List Edge → ℕ
refused_count p None es = 0
refused_count p (Some version) es = length es - accepted_count (bench p version) es

-- the status of a replay that refused so many edges
abbrev pub status_with : ℕ → Status
status_with refused = if refused == 0 then Done else SomeRefused

abbrev pub status_of : Plan → Reading → Status
status_of p r = status_with (refused_count p r.version r.edges)

-- a trace with this fault
abbrev pub HasFault : List ℕ → Fault → Type 0
HasFault trace f = option_map fault_of (read_of trace).fault ≡ Some f

-- A trace that begins with these bytes can go on, so that none of X1 to X3 stands in them: they
-- are a whole trace, one that is cut off, or nothing.
abbrev pub CanGoOn : List ℕ → Type 0
CanGoOn bytes =
    ((read_of bytes).fault ≡ None) ⊎ ((read_of bytes).fault ≡ Some cut_off) ⊎ (bytes ≡ [])

-- What a replay of a trace leaves at a fault, if the trace stands in the input after a text. X1 to
-- X4: the verdicts on the edges before it. X5: on the edges of what was read, which can go on.
-- X6: on the edges that found room. X8: a prefix of the report.
abbrev pub ReplayStops : LineForm → Plan → List ℕ → List ℕ → Streams → Fault → Type 0
ReplayStops form p text trace s Header = HasFault trace Header × Wrote s (report form p trace)
ReplayStops form p text trace s (Line n) = HasFault trace (Line n) × Wrote s (report form p trace)
ReplayStops form p text trace s (TooLong n) =
    HasFault trace (TooLong n) × Wrote s (report form p trace)
ReplayStops form p text trace s CutOff = HasFault trace CutOff × Wrote s (report form p trace)
ReplayStops form p text trace s Read =
    (bytes : List ℕ) × HasConsumed s (text ++ bytes) × CanGoOn bytes
    × Wrote s (lines_of form p (read_of bytes).version (read_of bytes).edges)
ReplayStops form p text trace s Memory =
    (es : List Edge) × (others : List Edge) × ((read_of trace).edges ≡ es ++ others)
    × Wrote s (lines_of form p (read_of trace).version es)
ReplayStops form p text trace s Failed = ⊥
ReplayStops form p text trace s Write = WroteFront s (report form p trace)

-- What a replay of a trace on a plan leaves: without a fault, the whole report in that form.
abbrev pub Replays : LineForm → Plan → List ℕ → List ℕ → Streams → Answer → Type 0
Replays form p text trace s (Ok status) =
    ((read_of trace).fault ≡ None) × IsReadOut s × Wrote s (report form p trace)
    × (status ≡ status_of p (read_of trace))
Replays form p text trace s (Err (fault.Trace f)) = ReplayStops form p text trace s f
Replays form p text trace s (Err _) = ⊥

-- a replay of the whole input
abbrev pub ReplaysInput : LineForm → Streams → Plan → Answer → Type 0
ReplaysInput form s p answer =
    (trace : List ℕ) × IsInput s.from trace × Replays form p [] trace s answer
