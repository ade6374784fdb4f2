-- The code of each fault, with which its line begins. (Profile.)
use Rattle.std.specs.Prelude.{Option, Some, None}
use Rattle.vme_model.specs.declared.PlanError.{PlanError}
use Rattle.vme_model.specs.declared.PlanError.TheVariants as plan
use Rattle.vme_scenario.specs.declared.ScenarioError.{ScenarioError}
use Rattle.vme_scenario.specs.declared.ScenarioError.TheVariants as scenario
use Rattle.vme_trace.specs.declared.Fault.{Fault}
use Rattle.vme_trace.specs.declared.Fault.TheVariants as trace
use Rattle.vme_reading.specs.declared.EngineFault.{EngineFault}
use Rattle.vme_reading.specs.declared.EngineFault.TheVariants as engine
use Rattle.vme_moments.specs.declared.MomentsFault.{MomentsFault}
use Rattle.vme_moments.specs.declared.MomentsFault.TheVariants as moments
use Rattle.vme_captures.specs.declared.CaptureFault.{CaptureFault}
use Rattle.vme_captures.specs.declared.CaptureFault.TheVariants as capture
use Rattle.vme_order.specs.declared.OrderingFault.{OrderingFault}
use Rattle.vme_order.specs.declared.OrderingFault.TheVariants as order
use Rattle.vme_probe.specs.declared.ProbeFault.{ProbeFault}
use Rattle.vme_probe.specs.declared.ProbeFault.TheVariants as probe
use Rattle.vme_run.specs.declared.RunFault.{RunFault}
use Rattle.vme_run.specs.declared.RunFault.TheVariants as run
use Rattle.vme_rulebook.specs.declared.Code.{Code}
use Rattle.vme_rulebook.specs.declared.Code.TheVariants.{F1, F2, F3, F4, F5, F6, L3, L4, L6, P1, P2, P3, P4, P5, P6, P7, P8, P9, Q1, Q2, Q3, Q4, Q6, X1, X2, X3, X4, X5, X6, X8, X9, X10, X11, X12, X13, X14, X15, X16, X17}
use Rattle.vme_program.specs.declared.arguments.WordsFault.{WordsFault}
use Rattle.vme_program.specs.declared.arguments.WordsFault.TheVariants as given
use Rattle.vme_program.specs.declared.faults.ProgramFault.{ProgramFault}
use Rattle.vme_program.specs.declared.faults.ProgramFault.TheVariants.{CannotRead, TooLong, Engine, InTrace, SomeTraces, NoRace, NeverComes, Boards, Ordering, Probing}

-- of a backplane
abbrev pub code_of_plan : PlanError → Code
code_of_plan plan.NoController = P1
code_of_plan (plan.TooManySlots slots) = P2
code_of_plan (plan.SlotTwice slot) = P3
code_of_plan (plan.ChainBroken slot chain) = P4
code_of_plan (plan.LevelNotServed slot) = P5
code_of_plan (plan.HandlerTwice level) = P6
code_of_plan (plan.HandlerWithoutRequester slot) = P7
code_of_plan (plan.OutOfRange field) = P8
code_of_plan plan.Memory = P9

-- of a scenario
abbrev pub code_of_scenario : ScenarioError → Code
code_of_scenario scenario.NotToml = Q1
code_of_scenario (scenario.UnknownKey key) = Q2
code_of_scenario (scenario.Missing key) = Q3
code_of_scenario (scenario.BadValue key) = Q4
code_of_scenario (scenario.Plan f) = code_of_plan f
code_of_scenario scenario.Memory = Q6

-- of a trace or of the output; that a reader is used up is never printed
abbrev pub code_of_trace : Fault → Option Code
code_of_trace trace.Header = Some X1
code_of_trace (trace.Line n) = Some X2
code_of_trace (trace.TooLong n) = Some X3
code_of_trace trace.CutOff = Some X4
code_of_trace trace.Read = Some X5
code_of_trace trace.Memory = Some X6
code_of_trace trace.Failed = None
code_of_trace trace.Write = Some X8

-- of an engine
abbrev pub code_of_engine : EngineFault → Option Code
code_of_engine (engine.Scenario f) = Some (code_of_scenario f)
code_of_engine (engine.Trace f) = code_of_trace f
code_of_engine engine.CannotRead = Some F1
code_of_engine engine.TooLong = Some F2
code_of_engine engine.NoMemory = Some F3
code_of_engine (engine.Beyond edges) = Some X9

-- of moments
abbrev pub code_of_moments : MomentsFault → Option Code
code_of_moments (moments.Trace f) = code_of_trace f
code_of_moments (moments.Earlier n) = Some X10
code_of_moments (moments.Momentless n) = Some X17
code_of_moments moments.TooMany = Some F6

-- of `order`; a slack of a slot without a board has no code
abbrev pub code_of_order : OrderingFault → Option Code
code_of_order (order.Engine f) = code_of_engine f
code_of_order (order.Moments f) = code_of_moments f
code_of_order (order.NoBoard slot) = None
code_of_order order.TooManyOrders = Some F5

-- of a capture
abbrev pub code_of_capture : CaptureFault → Option Code
code_of_capture (capture.Trace f) = code_of_trace f
code_of_capture (capture.Earlier n) = Some X10
code_of_capture (capture.NoPin n) = Some X12
code_of_capture (capture.SameWire n) = Some X13
code_of_capture (capture.NotProbed n) = Some X14
code_of_capture (capture.NoChange n) = Some X15
code_of_capture (capture.NoLine n) = Some X16

-- of `probe`
abbrev pub code_of_probe : ProbeFault → Option Code
code_of_probe (probe.Engine f) = code_of_engine f
code_of_probe (probe.Capture f) = code_of_capture f
code_of_probe probe.TooManyOrders = Some F5

-- of `run`
abbrev pub code_of_run : RunFault → Option Code
code_of_run (run.Engine f) = code_of_engine f
code_of_run run.NotStarted = Some L3
code_of_run (run.LogDiffers driver at) = Some L4
code_of_run (run.NotReplayed at) = Some L6

-- of a command
abbrev pub code_of : ProgramFault → Option Code
code_of (CannotRead name) = Some F1
code_of (TooLong name) = Some F2
code_of (Engine f) = code_of_engine f
code_of (InTrace name f) = code_of_trace f
code_of SomeTraces = None
code_of (NoRace edge) = Some X11
code_of (NeverComes why) = None
code_of (Boards f) = code_of_run f
code_of (Ordering f) = code_of_order f
code_of (Probing f) = code_of_probe f

-- of the arguments
abbrev pub code_of_words : WordsFault → Code
code_of_words (given.NotText word) = F4
code_of_words given.NoMemory = F3
