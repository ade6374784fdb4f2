use Rattle.std.proofs.Common.{◌∷◌}
use Rattle.std.proofs.lemmas.Result.{err_from_is_err_and}
use Rattle.vme_captures.specs.declared.signals.Entry.TheVariants as entry
use Rattle.vme_probe.specs.Reads.{skew_of, waiting_in}
use Rattle.vme_probe.proofs.Judged.{head_ended, head_fails, moment_later, stands_on}
use Rattle.vme_probe.proofs.probes.Judging.take_moment.Goals as goal

pub returns-in-Some-clause-taken : goal.returns-in-Some-clause-taken
returns-in-Some-clause-taken g c = λ moment version bytes said from named read s.
    moment_later c.args.plan.now (skew_of c.args.self.now.sampling) version said moment c.in-Some.field-0 c.args.self.now.known (waiting_in c.args.self.now.sampling) from
    (g.W.Write.contents c.args.out.now) c.in-Some.is s

pub returns-in_ok-end_head-in-None-clause-taken : goal.returns-in_ok-end_head-in-None-clause-taken
returns-in_ok-end_head-in-None-clause-taken g c = λ moment version bytes said from named read s.
    let skew = skew_of c.args.self.now.sampling in
    let waits = waiting_in c.end_head.new.self.sampling in
    head_ended c.args.plan.now skew version said moment waits from (g.W.Write.contents c.args.out.now) (g.W.Write.contents c.end_head.new.out)
    (stands_on c.args.plan.now skew version said c.args.self.now.known c.args.self.now.sampling c.end_head.new.self.sampling from
    (g.W.Write.contents c.args.out.now) c.in-None.is c.in_ok-end_head-in-None.ensures.sampling s)
    c.end_head.new.self.known _ (c.in_ok-end_head-in-None.ensures.ended version bytes (entry.Moment moment ∷ said) named read)

pub returns-in_err-end_head-in-None-clause-taken : goal.returns-in_err-end_head-in-None-clause-taken
returns-in_err-end_head-in-None-clause-taken g c = λ moment version bytes said from named read s.
    let e = err_from_is_err_and c.from_residual.result c.from_residual.ensures.1 in
    let skew = skew_of c.args.self.now.sampling in
    let waits = waiting_in c.end_head.new.self.sampling in
    rw (e.1, e.2)
    (head_fails c.args.plan.now skew version said moment waits from (g.W.Write.contents c.args.out.now) (g.W.Write.contents c.end_head.new.out)
    (stands_on c.args.plan.now skew version said c.args.self.now.known c.args.self.now.sampling c.end_head.new.self.sampling from
    (g.W.Write.contents c.args.out.now) c.in-None.is c.in_err-end_head-in-None.ensures.sampling s)
    c.end_head.new.self.known _ (c.in_err-end_head-in-None.ensures.ended version bytes (entry.Moment moment ∷ said) named read))
