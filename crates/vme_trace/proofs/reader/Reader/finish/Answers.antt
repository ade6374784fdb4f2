use Rattle.std.proofs.Common.{arith, sym, ◌∙◌, ap, not}
use Rattle.vme_trace.specs.Reading.{answer_of}
use Rattle.vme_trace.proofs.FedReader.{standing, ends_cut, ends_none, ends_whole}
use Rattle.vme_trace.proofs.reader.Reader.finish.Goals as goal

pub returns-then-not-is_empty-clause-ends : goal.returns-then-not-is_empty-clause-ends
returns-then-not-is_empty-clause-ends c = λ bytes es read.
    sym (ap answer_of (ends_cut _ _ _ bytes es (standing _ _ _ _ bytes es c.self.view_is c.if-self.false read) c.self.invariant (grind arith)))

pub returns-then-is_none-clause-ends : goal.returns-then-is_none-clause-ends
returns-then-is_none-clause-ends c = λ bytes es read.
    sym (ap answer_of (ends_none _ _ _ bytes es (grind arith) (standing _ _ _ _ bytes es c.self.view_is c.if-self.false read) (c.is_none.ensures ∙ ap not c.if-is_none.true)))

pub returns-clause-ends : goal.returns-clause-ends
returns-clause-ends c = λ bytes es read.
    sym (ap answer_of (ends_whole _ _ _ bytes es (grind arith) (standing _ _ _ _ bytes es c.self.view_is c.if-self.false read) (c.is_none.ensures ∙ ap not c.if-is_none.false)))
