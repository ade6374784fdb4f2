use Rattle.std.proofs.Common.{◌∙◌, sym, subst}
use Rattle.std.proofs.KnownBytes.{Keeps-refl}
use Rattle.std.proofs.lemmas.Option.{same_Some}
use Rattle.std.proofs.lemmas.Result.{err_from_is_err_and}
use Rattle.vme_probe.specs.Knowing.{Begins, CannotBegin}
use Rattle.vme_probe.proofs.probes.Judging.begin.Goals as goal

pub returns-in_err-write_no_beginning-in-None : goal.returns-in_err-write_no_beginning-in-None
returns-in_err-write_no_beginning-in-None g c = λ version bytes said named read.
    let e = err_from_is_err_and c.from_residual.result c.from_residual.ensures.1 in
    let same = same_Some c.in-Some.version version (sym c.in-Some.is ∙ c.version.ensures ∙ named) in
    rw (e.1, e.2) (
      c.in_err-write_no_beginning-in-None.ensures.fault,
      subst (λ v. CannotBegin c.args.plan.now v said) same (c.in-None.ensures bytes said read),
      c.in_err-write_no_beginning-in-None.ensures.front,
    )

pub returns-in_ok-write_no_beginning-in-None : goal.returns-in_ok-write_no_beginning-in-None
returns-in_ok-write_no_beginning-in-None g c = λ version bytes said named read.
    let same = same_Some c.in-Some.version version (sym c.in-Some.is ∙ c.version.ensures ∙ named) in (
      subst (λ v. CannotBegin c.args.plan.now v said) same (c.in-None.ensures bytes said read),
      c.in_ok-write_no_beginning-in-None.ensures.ok,
    )

pub returns-in-Some-known_at_head : goal.returns-in-Some-known_at_head
returns-in-Some-known_at_head g c = λ version bytes said named read.
    let same = same_Some c.in-Some.version version (sym c.in-Some.is ∙ c.version.ensures ∙ named) in (
      subst (λ v. Begins c.args.plan.now v said c.in-Some-known_at_head.known) same (c.in-Some-known_at_head.ensures bytes said read),
      Keeps-refl (g.W.Write.contents c.args.out.now),
    )
