use Rattle.std.proofs.Common.{◌∙◌, ◌++◌, inl, sym}
use Rattle.vme_reading.proofs.PairReads.{has_stopped, is_whole, meets}
use Rattle.vme_reading.proofs.traces.Input.read_out.Goals as goal

pub reads-preserved : goal.reads-preserved
reads-preserved g c = λ from v es h.
    let came = c.reads.invariant from v es h in
    (came.0 ++ c.read_piece.new.self.edges.items, c.read_piece.ensures.comes from v came.0 came.1)

pub returns-in-Ok-clause-whole : goal.returns-in-Ok-clause-whole
returns-in-Ok-clause-whole g c = λ from v es h.
    let came = c.reads.invariant from v es h in
    (came.0, is_whole from _ v came.0 c.reads.self came.1 (has_stopped c.reads.self.more _ c.in-Ok.is (sym c.goes_on.ensures ∙ c.reads-test.false)))

pub returns-in-Err-clause-fault : goal.returns-in-Err-clause-fault
returns-in-Err-clause-fault g c = λ from v es h.
    let came = c.reads.invariant from v es h in meets from _ v came.0 c.reads.self came.1 c.in-Err.fault (inl c.in-Err.is)
