use Rattle.std.proofs.Common.{◌++◌, ◌∙◌, Ok, ap}
use Rattle.std.proofs.KnownBytes.{Appends-kept}
use Rattle.std.proofs.lemmas.Result.{err_from_is_err_and}
use Rattle.vme_cycles.specs.Outcomes.{lines_by}
use Rattle.vme_cycles.proofs.LeftOfTrace.{cut_now, end_cut_now, end_now, stop_now, edge_lines_cut, edge_lines_next, unflushed_now}
use Rattle.vme_cycles.proofs.judge.TrackingJudge.take.Goals as goal

pub returns-in_err-take_edges-clause-takes : goal.returns-in_err-take_edges-clause-takes
returns-in_err-take_edges-clause-takes g c =
    λ task p v es old h.
    let e = err_from_is_err_and c.from_residual.result c.from_residual.ensures.1 in
    rw (e.1, e.2)
    (cut_now p v (es ++ c.args.edges.now) c.args.more old _ c.in_err-take_edges.field-0.0 c.in_err-take_edges.ensures.fault
    (edge_lines_cut p v es c.args.edges.now old _ _ h.0 (c.in_err-take_edges.ensures.front p v es h.1)))

pub returns-in_err-flush-in-Ok-true-clause-takes : goal.returns-in_err-flush-in-Ok-true-clause-takes
returns-in_err-flush-in-Ok-true-clause-takes g c =
    λ task p v es old h.
    let e = err_from_is_err_and c.from_residual-in_err-flush-in-Ok-true.result c.from_residual-in_err-flush-in-Ok-true.ensures.1 in
    let wrote = edge_lines_next p v es c.args.edges.now old _ _ h.0 (c.in_ok-take_edges.ensures.ok p v es h.1) in
    rw (e.1, e.2)
    (unflushed_now p v (es ++ c.args.edges.now) c.args.more old _ _ wrote c.in_err-flush-in-Ok-true.field-0.0 c.in_err-flush-in-Ok-true.ensures.fault c.in_err-flush-in-Ok-true.ensures.kept)

pub returns-in_err-finish-in-Ok-false-clause-takes : goal.returns-in_err-finish-in-Ok-false-clause-takes
returns-in_err-finish-in-Ok-false-clause-takes g c =
    λ task p v es old h.
    let e = err_from_is_err_and c.from_residual-in_err-finish-in-Ok-false.result c.from_residual-in_err-finish-in-Ok-false.ensures.1 in
    let all = es ++ c.args.edges.now in
    let wrote = edge_lines_next p v es c.args.edges.now old _ _ h.0 (c.in_ok-take_edges.ensures.ok p v es h.1) in
    rw (e.1, e.2)
    (end_cut_now p v all c.args.more old _ _ wrote c.in_err-finish-in-Ok-false.field-0.0 (c.in-Ok-false.is ∙ ap (λ b. Ok b) c.in-Ok-false.field-0-test) c.in_err-finish-in-Ok-false.ensures.fault
    (c.in_err-finish-in-Ok-false.ensures.front p v all (c.in_ok-take_edges.ensures.tracked p v es h.1)))

pub returns-in_err-flush-in-Err-clause-takes : goal.returns-in_err-flush-in-Err-clause-takes
returns-in_err-flush-in-Err-clause-takes g c =
    λ task p v es old h.
    let e = err_from_is_err_and c.from_residual-in_err-flush-in-Err.result c.from_residual-in_err-flush-in-Err.ensures.1 in
    let wrote = edge_lines_next p v es c.args.edges.now old _ _ h.0 (c.in_ok-take_edges.ensures.ok p v es h.1) in
    rw (e.1, e.2)
    (unflushed_now p v (es ++ c.args.edges.now) c.args.more old _ _ wrote c.in_err-flush-in-Err.field-0.0 c.in_err-flush-in-Err.ensures.fault c.in_err-flush-in-Err.ensures.kept)

pub returns-in_ok-flush-in-Ok-true-clause-takes : goal.returns-in_ok-flush-in-Ok-true-clause-takes
returns-in_ok-flush-in-Ok-true-clause-takes g c =
    λ task p v es old h.
    let wrote = edge_lines_next p v es c.args.edges.now old _ _ h.0 (c.in_ok-take_edges.ensures.ok p v es h.1) in
    (Appends-kept old _ _ (lines_by p v (es ++ c.args.edges.now)) wrote c.in_ok-flush-in-Ok-true.ensures.kept, c.in_ok-take_edges.ensures.tracked p v es h.1)

pub returns-else-paused-clause-takes : goal.returns-else-paused-clause-takes
returns-else-paused-clause-takes g c =
    λ task p v es old h.
    (edge_lines_next p v es c.args.edges.now old _ _ h.0 (c.in_ok-take_edges.ensures.ok p v es h.1), c.in_ok-take_edges.ensures.tracked p v es h.1)

pub returns-in_ok-finish-in-Ok-false-clause-takes : goal.returns-in_ok-finish-in-Ok-false-clause-takes
returns-in_ok-finish-in-Ok-false-clause-takes g c =
    λ task p v es old h.
    let wrote = edge_lines_next p v es c.args.edges.now old _ _ h.0 (c.in_ok-take_edges.ensures.ok p v es h.1) in
    let tracked = c.in_ok-take_edges.ensures.tracked p v es h.1 in
    let done = c.in_ok-finish-in-Ok-false.ensures in
    end_now p v (es ++ c.args.edges.now) c.args.more old _ _ wrote _ (c.in-Ok-false.is ∙ ap (λ b. Ok b) c.in-Ok-false.field-0-test) (done.status p v _ tracked) (done.ok p v _ tracked)

pub returns-in_ok-flush-in-Err-clause-takes : goal.returns-in_ok-flush-in-Err-clause-takes
returns-in_ok-flush-in-Err-clause-takes g c =
    λ task p v es old h.
    let wrote = edge_lines_next p v es c.args.edges.now old _ _ h.0 (c.in_ok-take_edges.ensures.ok p v es h.1) in
    stop_now p v (es ++ c.args.edges.now) c.args.more old _ _ wrote c.in-Err.fault c.in-Err.is c.in_ok-flush-in-Err.ensures.kept
