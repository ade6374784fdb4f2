use Rattle.std.proofs.Common.{refl}
use Rattle.std.proofs.lemmas.Result.{err_from_is_err_and}
use Rattle.vme_engines.proofs.CheckPieces.{finds_unbegun, finds_all}
use Rattle.vme_engines.proofs.checks.find.Goals as goal

pub returns-in_err-version-clause-finds : goal.returns-in_err-version-clause-finds
returns-in_err-version-clause-finds g c =
    let e = err_from_is_err_and c.from_residual.result c.from_residual.ensures.1 in
    rw (e.1, e.2) (finds_unbegun c.args.plan _ _ c.in_err-version.field-0.0 c.in_err-version.ensures.unbegun)

pub returns-clause-finds : goal.returns-clause-finds
returns-clause-finds g c =
    let ran = c.read_on.ensures _ _ c.in_ok-version.ensures.begun in
    (ran.0, ran.1, (finds_all (λ s. s.bus) (λ s. s.judged) c.args.plan _ ran.0 _ c.new.result 0 c.read_on.result c.new.ensures refl ran.2).0)

pub returns-clause-kept : goal.returns-clause-kept
returns-clause-kept g c =
    let ran = c.read_on.ensures _ _ c.in_ok-version.ensures.begun in
    (finds_all (λ s. s.bus) (λ s. s.judged) c.args.plan _ ran.0 _ c.new.result 0 c.read_on.result c.new.ensures refl ran.2).1
