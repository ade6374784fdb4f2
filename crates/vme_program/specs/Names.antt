-- The names that a fault may print.
use Rattle.std.specs.Prelude.{◌≡◌, ◌⊎◌, ℕ, Bool, true, false, List, [], codes, Result, Ok, Err}
use Rattle.std.specs.List.{Contains}
use Rattle.std.specs.Borrow.{Bor}
use Rattle.vme_reading.specs.declared.LineForm.{LineForm}
use Rattle.vme_reading.specs.declared.LineForm.TheVariants.{Short, Full}
use Rattle.vme_reading.specs.declared.Status.{Status}
use Rattle.vme_reading.specs.declared.Status.TheVariants as ends
use Rattle.vme_reading.specs.declared.EngineFault.{EngineFault}
use Rattle.vme_reading.specs.declared.EngineFault.TheVariants as fault
use Rattle.vme_reading.specs.declared.pairs.PairFault.{PairFault}
use Rattle.vme_reading.specs.declared.pairs.PairFault.TheVariants as pair
use Rattle.vme_run.specs.declared.RunFault.{RunFault}
use Rattle.vme_run.specs.declared.RunFault.TheVariants as run
use Rattle.vme_order.specs.declared.Form.{Form}
use Rattle.vme_order.specs.declared.Form.TheVariants.{Trace, Places}
use Rattle.vme_order.specs.declared.OrderingFault.{OrderingFault}
use Rattle.vme_order.specs.declared.OrderingFault.TheVariants as order
use Rattle.vme_probe.specs.declared.ProbeFault.{ProbeFault}
use Rattle.vme_probe.specs.declared.ProbeFault.TheVariants as probe
use Rattle.vme_races.specs.declared.other.OtherOrder.{OtherOrder as Other}
use Rattle.vme_races.specs.declared.other.OtherOrder.TheVariants as other
use Rattle.vme_command_line.specs.Asked.{texts_of}
use Rattle.vme_command_line.specs.declared.Job.{Job}
use Rattle.vme_command_line.specs.declared.Job.TheVariants.{Joined, OwnVersion, Rules, OnScenario}
use Rattle.vme_command_line.specs.declared.Work.{Work}
use Rattle.vme_command_line.specs.declared.Work.TheVariants.{OnTrace, Checks, Sums, OtherOrder, Same, Order, Probe, Drive, Run}
use Rattle.vme_program.specs.declared.faults.ProgramFault.{ProgramFault}
use Rattle.vme_program.specs.declared.faults.ProgramFault.TheVariants.{CannotRead, TooLong, Engine, InTrace, SomeTraces, NoRace, NeverComes, Boards, Ordering, Probing}

-- the name of the scenario of a job: standard input is `-`, and two jobs have none
abbrev pub scenario_name : Job → List ℕ
scenario_name Joined = codes "-"
scenario_name OwnVersion = []
scenario_name (Rules entry) = []
scenario_name (OnScenario scenario work) = scenario.now

-- this is the name of a file of a work, beside the scenario
abbrev pub IsFileOfWork : Work → List ℕ → Type 0
IsFileOfWork (OnTrace task trace) name = name ≡ trace.now
IsFileOfWork (Checks traces) name = Contains (texts_of traces.items) name
IsFileOfWork (Sums traces) name = Contains (texts_of traces.items) name
IsFileOfWork (OtherOrder trace edge) name = name ≡ trace.now
IsFileOfWork (Same trace other) name = (name ≡ trace.now) ⊎ (name ≡ other.now)
IsFileOfWork (Order moments slacks places progress) name = name ≡ moments.now
IsFileOfWork (Probe capture skew) name = name ≡ capture.now
IsFileOfWork (Drive edges version choice) name = ⊥
IsFileOfWork (Run edges turns version) name = ⊥

-- this is the name of a file of a job
abbrev pub IsFileOf : Job → List ℕ → Type 0
IsFileOf Joined name = name ≡ codes "-"
IsFileOf OwnVersion name = ⊥
IsFileOf (Rules entry) name = ⊥
IsFileOf (OnScenario scenario work) name = (name ≡ scenario.now) ⊎ IsFileOfWork work name

-- an engine's fault, given the name of the scenario
abbrev pub fault_named : Bor (List ℕ) → EngineFault → ProgramFault
fault_named name fault.CannotRead = CannotRead name
fault_named name fault.TooLong = TooLong name
fault_named name (fault.Scenario e) = Engine (fault.Scenario e)
fault_named name (fault.Trace f) = Engine (fault.Trace f)
fault_named name (fault.Beyond edges) = Engine (fault.Beyond edges)
fault_named name fault.NoMemory = Engine fault.NoMemory

abbrev pub answer_named : Bor (List ℕ) → Result Status EngineFault → Result Status ProgramFault
answer_named name (Ok status) = Ok status
answer_named name (Err f) = Err (fault_named name f)

-- an engine's fault, given the name of the scenario and that of the trace, which is one of several
abbrev pub trace_fault_named : Bor (List ℕ) → Bor (List ℕ) → EngineFault → ProgramFault
trace_fault_named scenario trace (fault.Trace f) = InTrace trace f
trace_fault_named scenario trace f = fault_named scenario f

abbrev pub trace_answer_named :
    {A : Type 0} → Bor (List ℕ) → Bor (List ℕ) → Result A EngineFault → Result A ProgramFault
trace_answer_named scenario trace (Ok answer) = Ok answer
trace_answer_named scenario trace (Err f) = Err (trace_fault_named scenario trace f)

abbrev pub run_answer_named :
    Bor (List ℕ) → Result Status RunFault → Result Status ProgramFault
run_answer_named name (Ok status) = Ok status
run_answer_named name (Err (run.Engine f)) = Err (fault_named name f)
run_answer_named name (Err run.NotStarted) = Err (Boards run.NotStarted)
run_answer_named name (Err (run.LogDiffers driver at)) = Err (Boards (run.LogDiffers driver at))
run_answer_named name (Err (run.NotReplayed at)) = Err (Boards (run.NotReplayed at))

-- what a replay writes of each edge, with `--full` and without
abbrev pub line_form : Bool → LineForm
line_form true = Full
line_form false = Short

-- what is written of an order, with `--where` and without
abbrev pub form_of : Bool → Form
form_of true = Places
form_of false = Trace

abbrev pub order_answer_named :
    Bor (List ℕ) → Result Status OrderingFault → Result Status ProgramFault
order_answer_named name (Ok status) = Ok status
order_answer_named name (Err (order.Engine f)) = Err (fault_named name f)
order_answer_named name (Err (order.Moments f)) = Err (Ordering (order.Moments f))
order_answer_named name (Err (order.NoBoard slot)) = Err (Ordering (order.NoBoard slot))
order_answer_named name (Err order.TooManyOrders) = Err (Ordering order.TooManyOrders)

abbrev pub probe_answer_named :
    Bor (List ℕ) → Result Status ProbeFault → Result Status ProgramFault
probe_answer_named name (Ok status) = Ok status
probe_answer_named name (Err (probe.Engine f)) = Err (fault_named name f)
probe_answer_named name (Err (probe.Capture f)) = Err (Probing (probe.Capture f))
probe_answer_named name (Err probe.TooManyOrders) = Err (Probing probe.TooManyOrders)

-- the answer about the other order of the race of this edge
abbrev pub other_answer_named :
    Bor (List ℕ) → ℕ → Result Other EngineFault → Result Status ProgramFault
other_answer_named name edge (Ok other.Written) = Ok ends.Done
other_answer_named name edge (Ok other.NoRace) = Err (NoRace edge)
other_answer_named name edge (Ok (other.Beyond edges)) = Err (Engine (fault.Beyond edges))
other_answer_named name edge (Err f) = Err (fault_named name f)

-- a fault of an engine on two traces; that of the first trace names no file
abbrev pub pair_fault_named : Bor (List ℕ) → Bor (List ℕ) → PairFault → ProgramFault
pair_fault_named scenario second (pair.Engine f) = fault_named scenario f
pair_fault_named scenario second (pair.First f) = Engine (fault.Trace f)
pair_fault_named scenario second (pair.Second f) = InTrace second f

-- a file of this name cannot be read, or there is no memory for it
abbrev pub IsFileFault : Bor (List ℕ) → ProgramFault → Type 0
IsFileFault name f = (f ≡ CannotRead name) ⊎ (f ≡ Engine fault.NoMemory)

-- a scenario of this name cannot be read, is too long, or there is no memory for it
abbrev pub IsScenarioFault : Bor (List ℕ) → ProgramFault → Type 0
IsScenarioFault name f = (f ≡ CannotRead name) ⊎ (f ≡ TooLong name) ⊎ (f ≡ Engine fault.NoMemory)

-- a fault of a job: what cannot be read is one of its files, and what is too long is its scenario
abbrev pub IsFaultOf : Job → ProgramFault → Type 0
IsFaultOf job (CannotRead name) = IsFileOf job name.now
IsFaultOf job (TooLong name) = name.now ≡ scenario_name job
IsFaultOf job (Engine fault) = Unit {0}
IsFaultOf job (InTrace name fault) = IsFileOf job name.now
IsFaultOf job SomeTraces = Unit {0}
IsFaultOf job (NoRace edge) = Unit {0}
IsFaultOf job (NeverComes why) = Unit {0}
IsFaultOf job (Boards fault) = Unit {0}
IsFaultOf job (Ordering fault) = Unit {0}
IsFaultOf job (Probing fault) = Unit {0}
