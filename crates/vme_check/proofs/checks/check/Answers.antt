use Rattle.std.proofs.lemmas.Result.{err_from_is_err_and}
use Rattle.std.proofs.KnownBytes.{Keeps-refl}
use Rattle.vme_check.proofs.CheckPieces.{check_done, check_unfound}
use Rattle.vme_check.proofs.checks.check.Goals as goal

pub returns-in_err-finding : goal.returns-in_err-finding
returns-in_err-finding g c =
    let e = err_from_is_err_and c.from_residual.result c.from_residual.ensures.1 in
    rw (e.1, e.2) (check_unfound _ _ _ _ _ _ (Keeps-refl _) c.in_err-finding.ensures)

pub returns-in-Ok : goal.returns-in-Ok
returns-in-Ok g c =
    check_done _ _ _ _ _ _ _ c.in_ok-finding.ensures c.in-Ok.ensures.status c.in-Ok.ensures.ok
