use Rattle.std.proofs.Common.{Option, Ok, refl, subst}
use Rattle.std.proofs.lemmas.Result.{err_from_is_err_and}
use Rattle.vme_probe.specs.declared.judging.Known.{Known}
use Rattle.vme_probe.specs.Steps.{HeadEnded}
use Rattle.vme_probe.proofs.probes.Judging.end_head.Goals as goal

pub returns-in_err-known-clause-ended : goal.returns-in_err-known-clause-ended
returns-in_err-known-clause-ended g c = λ version bytes said named read.
    let e = err_from_is_err_and c.from_residual.result c.from_residual.ensures.1 in
    rw (e.1, e.2) (c.in_err-known.ensures version bytes said named read)

pub returns-in-Some-clause-ended : goal.returns-in-Some-clause-ended
returns-in-Some-clause-ended g c = λ version bytes said named read.
    let h =
    subst (λ (o : Option Known). HeadEnded c.args.plan.now version said (g.W.Write.contents c.args.out.now) (g.W.Write.contents c.begin.new.out) (Ok o)) c.in-Some.is
    (c.in_ok-known.ensures version bytes said named read) in
    (c.in-Some.field-0, c.in-Some.is, h.0, h.1)

pub returns-in-None-clause-ended : goal.returns-in-None-clause-ended
returns-in-None-clause-ended g c = λ version bytes said named read.
    let h =
    subst (λ (o : Option Known). HeadEnded c.args.plan.now version said (g.W.Write.contents c.args.out.now) (g.W.Write.contents c.begin.new.out) (Ok o)) c.in-None.is
    (c.in_ok-known.ensures version bytes said named read) in
    (h.0, h.1, refl)
