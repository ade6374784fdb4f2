use Rattle.std.proofs.lemmas.Result.{err_from_is_err_and}
use Rattle.vme_engines.proofs.FoundSeeds.{attempt_over, attempt_came, attempt_fault, attempt_kept}
use Rattle.vme_engines.proofs.seeds.attempt.Goals as goal

pub returns-in_err-comes_to-clause-outcome : goal.returns-in_err-comes_to-clause-outcome
returns-in_err-comes_to-clause-outcome g c =
    let w = c.args.walk.now in
    let e = err_from_is_err_and c.from_residual.result c.from_residual.ensures.1 in
    rw (e.1, e.2) (attempt_fault w.state.plan w.state.version c.args.seed c.args.edges c.args.goal (g.W.Write.contents c.args.out.now) c.in_err-comes_to.field-0.0 c.in_err-comes_to.ensures.fault)
