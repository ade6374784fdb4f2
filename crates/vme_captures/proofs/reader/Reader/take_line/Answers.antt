use Rattle.std.proofs.Common.{not, ◌∙◌, ap}
use Rattle.std.proofs.lemmas.Result.{err_from_is_err_and}
use Rattle.vme_captures.proofs.Took.{entry_lost, entry_taken, header_lost, header_taken, no_version, some_version}
use Rattle.vme_captures.proofs.reader.Reader.take_line.Goals as goal

pub returns-in_err-take_header : goal.returns-in_err-take_header
returns-in_err-take_header c =
    let p = err_from_is_err_and c.from_residual.result c.from_residual.ensures.1 in
    let unnamed = no_version c.args.self.now.version (c.is_none.ensures ∙ ap not c.if-is_none.true) in
    λ bytes said read.
    rw (p.1, p.2)
    (header_lost c.args.plan.now c.args.self.now bytes said read c.take_header.new.self unnamed _ c.in_err-take_header.ensures)

pub returns-then-is_none : goal.returns-then-is_none
returns-then-is_none c =
    let unnamed = no_version c.args.self.now.version (c.is_none.ensures ∙ ap not c.if-is_none.true) in
    λ bytes said read.
    header_taken c.args.plan.now c.args.self.now bytes said read c.take_header.new.self unnamed c.in_ok-take_header.ensures

pub returns-in_err-take_entry : goal.returns-in_err-take_entry
returns-in_err-take_entry c =
    let p = err_from_is_err_and c.from_residual-in_err-take_entry.result c.from_residual-in_err-take_entry.ensures.1 in
    let v = some_version c.args.self.now.version (c.is_none.ensures ∙ ap not c.if-is_none.false) in
    λ bytes said read.
    rw (p.1, p.2)
    (entry_lost c.args.plan.now c.args.self.now bytes said read c.take_entry.new.self v.0 v.1 _ c.in_err-take_entry.ensures)

pub returns : goal.returns
returns c =
    let v = some_version c.args.self.now.version (c.is_none.ensures ∙ ap not c.if-is_none.false) in
    λ bytes said read.
    entry_taken c.args.plan.now c.args.self.now bytes said read c.take_entry.new.self v.0 v.1 _ c.in_ok-take_entry.ensures
