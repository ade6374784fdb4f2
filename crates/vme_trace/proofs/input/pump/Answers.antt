use Rattle.vme_trace.proofs.FedReader.{pumped}
use Rattle.vme_trace.proofs.input.pump.Goals as goal

pub returns-clause-reads : goal.returns-clause-reads
returns-clause-reads g c = λ bytes es read. pumped _ _ bytes es _ _ _ _ (c.pump_with.ensures.reads bytes es read)
