use Rattle.std.proofs.Common.{◌∙◌, ap, not}
use Rattle.std.proofs.lemmas.Result.{err_from_is_err_and}
use Rattle.vme_moments.proofs.TakenBytes.{other_faulty, other_taken}
use Rattle.vme_moments.proofs.reader.Reader.take_line.Goals as goal

pub returns-in_err-take_other : goal.returns-in_err-take_other
returns-in_err-take_other c =
    let p = err_from_is_err_and c.from_residual.result c.from_residual.ensures.1 in
    rw (p.1, p.2)
    (other_faulty c.args.self.now c.take_other.new.self _ c.requires
    (c.is_none.ensures ∙ ap not c.if-is_none.false) c.in_err-take_other.ensures)

pub returns : goal.returns
returns c =
    other_taken c.args.self.now c.take_other.new.self c.go_on.new.self c.requires
    (c.is_none.ensures ∙ ap not c.if-is_none.false) c.in_ok-take_other.ensures
    c.go_on.ensures.part c.go_on.ensures.version c.go_on.ensures.line c.go_on.ensures.last
    c.go_on.ensures.seen
