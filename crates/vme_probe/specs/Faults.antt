-- How faults of a scenario, of a capture and of the output are reported.
use Rattle.vme_trace.specs.declared.Fault.{Fault}
use Rattle.vme_captures.specs.declared.CaptureFault.{CaptureFault}
use Rattle.vme_reading.specs.declared.EngineFault.{EngineFault}
use Rattle.vme_reading.specs.declared.EngineFault.TheVariants as engine
use Rattle.vme_probe.specs.declared.probes.ProbeFault.{ProbeFault}
use Rattle.vme_probe.specs.declared.probes.ProbeFault.TheVariants as fault

abbrev pub engine_fault : EngineFault → ProbeFault
engine_fault f = fault.Engine f

abbrev pub capture_fault : CaptureFault → ProbeFault
capture_fault f = fault.Capture f

abbrev pub output_fault : Fault → ProbeFault
output_fault f = fault.Engine (engine.Trace f)
