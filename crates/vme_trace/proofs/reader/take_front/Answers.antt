use Rattle.std.proofs.Common.{rules, arith, ◌≡◌, ◌++◌, [], length-append, sym, append-nil}
use Rattle.std.proofs.lemmas.Result.{err_from_is_err_and}
use Rattle.vme_trace.proofs.Lines.{IsOneLine-append, IsOneLine-front, IsOneLine-whole, cut, nothing_behind}
use Rattle.vme_trace.proofs.ReaderSteps.{too_long_at, fault_before, kept}
use Rattle.vme_trace.proofs.reader.take_front.Goals as goal

pub take_joined-requires-clause-tail : goal.take_joined-requires-clause-tail
take_joined-requires-clause-tail g c = IsOneLine-front _ _ c.line_end-end.ensures.clean

pub returns-in_err-take_joined-clause-fault : goal.returns-in_err-take_joined-clause-fault
returns-in_err-take_joined-clause-fault g c =
    let p = err_from_is_err_and c.from_residual.result c.from_residual.ensures.1 in
    rw (p.1, p.2)
    (fault_before _ _ _ _ _ _ _ _ _ (cut c.args.piece.now c.line_end-end.result c.if-end-piece.true (c.line_end-end.ensures.stops c.if-end-piece.true))
    c.in_err-take_joined.ensures.fault)

pub returns-then-is_err-clause-fault : goal.returns-then-is_err-clause-fault
returns-then-is_err-clause-fault g c =
    too_long_at _ _ c.args.part.now.items c.args.piece.now [] _ _
    (IsOneLine-append _ _ c.requires.part.one_line (IsOneLine-whole _ _ c.if-end-piece.false c.line_end-end.ensures.clean)) (rw length-append (grind arith))
    (sym (append-nil c.args.piece.now))

pub returns-clause-part : goal.returns-clause-part
returns-clause-part g c =
    let same : c.try_extend_from_slice.new.self.items ≡ c.args.part.now.items ++ c.args.piece.now = search rules in
    record {
      one_line = rw same (IsOneLine-append _ _ c.requires.part.one_line (IsOneLine-whole _ _ c.if-end-piece.false c.line_end-end.ensures.clean));
      short = rw same (rw length-append (grind arith));
    }

pub returns-clause-ok : goal.returns-clause-ok
returns-clause-ok g c =
    let same : c.try_extend_from_slice.new.self.items ≡ c.args.part.now.items ++ c.args.piece.now = search rules in
    (c.args.piece.now, nothing_behind _ _ c.if-end-piece.false, kept _ _ _ _ _ _ same)
