-- How faults of an engine, of moments, of a search and of the output are reported.
use Rattle.vme_trace.specs.declared.Fault.{Fault}
use Rattle.vme_moments.specs.declared.MomentsFault.{MomentsFault}
use Rattle.vme_order_search.specs.declared.OrderFault.{OrderFault}
use Rattle.vme_order_search.specs.declared.OrderFault.TheVariants.{TooManyOrders, NoMemory}
use Rattle.vme_reading.specs.declared.EngineFault.{EngineFault}
use Rattle.vme_reading.specs.declared.EngineFault.TheVariants as engine
use Rattle.vme_order.specs.declared.OrderingFault.{OrderingFault}
use Rattle.vme_order.specs.declared.OrderingFault.TheVariants as fault

abbrev pub engine_fault : EngineFault → OrderingFault
engine_fault f = fault.Engine f

abbrev pub moments_fault : MomentsFault → OrderingFault
moments_fault f = fault.Moments f

abbrev pub output_fault : Fault → OrderingFault
output_fault f = fault.Engine (engine.Trace f)

abbrev pub search_fault : OrderFault → OrderingFault
search_fault TooManyOrders = fault.TooManyOrders
search_fault NoMemory = fault.Engine engine.NoMemory
