use Rattle.std.proofs.Common.{arith}
use Rattle.vme_trace.proofs.FedReader.{standing, fed_ok_any, fed_fault_any}
use Rattle.vme_trace.proofs.reader.Reader.feed.Goals as goal

pub returns-then-is_err-clause-reads : goal.returns-then-is_err-clause-reads
returns-then-is_err-clause-reads g c = λ bytes es read.
    fed_fault_any _ _ _ bytes es (standing _ _ _ _ bytes es c.self.view_is c.if-self.false read) _ _ _ _ _ (grind arith) c.take-result.ensures.fault

pub returns-else-is_err-clause-reads : goal.returns-else-is_err-clause-reads
returns-else-is_err-clause-reads g c = λ bytes es read.
    fed_ok_any _ _ _ bytes es (standing _ _ _ _ bytes es c.self.view_is c.if-self.false read) _ _ _ _ _ _ _ _ c.if-self.false (grind arith) c.take-result.ensures.part
    c.take-result.ensures.ok
