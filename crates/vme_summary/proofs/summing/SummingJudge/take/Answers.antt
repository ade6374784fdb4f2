use Rattle.std.proofs.Common.{◌++◌, ◌∙◌, ap, Ok}
use Rattle.std.proofs.lemmas.Result.{err_from_is_err_and}
use Rattle.vme_summary.proofs.TraceSums.{sums_now, sums_cut_now}
use Rattle.vme_summary.proofs.summing.SummingJudge.take.Goals as goal

pub returns-in_err-print_summary-in-Ok-false-clause-takes : goal.returns-in_err-print_summary-in-Ok-false-clause-takes
returns-in_err-print_summary-in-Ok-false-clause-takes g c =
    λ task p v es old h.
    let e = err_from_is_err_and c.from_residual.result c.from_residual.ensures.1 in
    let all = es ++ c.args.edges.now in
    rw (e.1, e.2) (sums_cut_now p v all _ old _ _ h.0 _ (c.in-Ok-false.is ∙ ap (λ b. Ok b) c.in-Ok-false.field-0-test) c.in_err-print_summary-in-Ok-false.ensures.fault
    (c.in_err-print_summary-in-Ok-false.ensures.front p v all (c.take_edges.ensures.sum p v es h.1)))

pub returns-in_ok-print_summary-in-Ok-false-clause-takes : goal.returns-in_ok-print_summary-in-Ok-false-clause-takes
returns-in_ok-print_summary-in-Ok-false-clause-takes g c =
    λ task p v es old h.
    let all = es ++ c.args.edges.now in
    let is = c.take_edges.ensures.sum p v es h.1 in
    sums_now p v all _ old _ _ h.0 _ (c.in-Ok-false.is ∙ ap (λ b. Ok b) c.in-Ok-false.field-0-test) (c.in_ok-print_summary-in-Ok-false.ensures.status p v all is)
    (c.in_ok-print_summary-in-Ok-false.ensures.ok p v all is)
