use Rattle.std.proofs.lemmas.Result.{err_from_is_err_and}
use Rattle.vme_probe.proofs.Answered.{end_fails, named_at_end, stands_at_end, whole_cut, whole_taken}
use Rattle.vme_probe.proofs.Said.{all_slots_read}
use Rattle.vme_probe.proofs.probes.Judging.finish.Goals as goal

pub returns-in_err-finish-clause-taken : goal.returns-in_err-finish-clause-taken
returns-in_err-finish-clause-taken g c = λ skew bytes from h.
    let e = err_from_is_err_and c.from_residual.result c.from_residual.ensures.1 in
    rw (e.1, e.2)
    (end_fails c.args.plan.now skew c.args.self.now bytes from (g.W.Write.contents c.args.out.now) h c.in_err-finish.field-0.0
    (c.in_err-finish.ensures c.args.plan.now bytes h.said h.read))

pub write_end-requires : goal.write_end-requires
write_end-requires g c = all_slots_read c.args.plan.now c.args.self.now.reader c.requires.0 c.requires.1 c.requires.2

pub returns-in_err-write_end-clause-taken : goal.returns-in_err-write_end-clause-taken
returns-in_err-write_end-clause-taken g c = λ skew bytes from h.
    let e = err_from_is_err_and c.from_residual-in_err-write_end.result c.from_residual-in_err-write_end.ensures.1 in
    let whole = c.in_ok-finish.ensures c.args.plan.now bytes h.said h.read in
    let v = named_at_end c.args.plan.now c.args.self.now.reader bytes h.said h.read whole.1 in
    let mid = g.W.Write.contents c.args.out.now in
    rw (e.1, e.2)
    (whole_cut c.args.plan.now skew c.args.self.now bytes from mid h v.0 v.1 whole (g.W.Write.contents c.write_end.new.out) c.in_err-write_end.field-0.0
    (c.in_err-write_end.ensures.written skew v.0 bytes h.said from v.1 h.read (stands_at_end c.args.plan.now skew c.args.self.now bytes from mid h v.0 v.1)))

pub returns-clause-taken : goal.returns-clause-taken
returns-clause-taken g c = λ skew bytes from h.
    let whole = c.in_ok-finish.ensures c.args.plan.now bytes h.said h.read in
    let v = named_at_end c.args.plan.now c.args.self.now.reader bytes h.said h.read whole.1 in
    let mid = g.W.Write.contents c.args.out.now in
    whole_taken c.args.plan.now skew c.args.self.now bytes from mid h v.0 v.1 whole (g.W.Write.contents c.write_end.new.out) c.in_ok-write_end.field-0
    (c.in_ok-write_end.ensures.written skew v.0 bytes h.said from v.1 h.read (stands_at_end c.args.plan.now skew c.args.self.now bytes from mid h v.0 v.1))
