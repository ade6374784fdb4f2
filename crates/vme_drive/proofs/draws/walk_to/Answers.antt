use Rattle.std.proofs.lemmas.Result.{err_from_is_err_and}
use Rattle.vme_drive.proofs.draws.walk_to.Goals as goal

pub returns-in_err-take-in-None-clause-listed : goal.returns-in_err-take-in-None-clause-listed
returns-in_err-take-in-None-clause-listed g c =
    let e = err_from_is_err_and c.from_residual.result c.from_residual.ensures.1 in
    rw (c.in-None.is, e.1, e.2) c.in_err-take-in-None.ensures
