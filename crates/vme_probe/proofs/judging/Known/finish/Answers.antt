use Rattle.std.proofs.Common.{ℕ, List, subst}
use Rattle.std.proofs.lemmas.Result.{err_from_is_err_and}
use Rattle.vme_trace.specs.Writing.{AppendsFront}
use Rattle.vme_probe.proofs.judging.Known.finish.Goals as goal

pub returns-in_err-write_last : goal.returns-in_err-write_last
returns-in_err-write_last g c =
    let e = err_from_is_err_and c.from_residual.result c.from_residual.ensures.1 in
    rw (e.1, e.2) (
      c.in_err-write_last.ensures.fault,
      c.end-report.result.items,
      c.end-report.ensures,
      subst (λ (l : List ℕ). AppendsFront (g.W.Write.contents c.args.out.now) (g.W.Write.contents c.write_last.new.out) l) c.as_slice.ensures.value c.in_err-write_last.ensures.front,
    )
