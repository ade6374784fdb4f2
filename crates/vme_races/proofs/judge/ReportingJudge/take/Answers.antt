use Rattle.std.proofs.Common.{◌++◌, ◌∙◌, Ok, ap}
use Rattle.std.proofs.lemmas.Result.{err_from_is_err_and}
use Rattle.vme_races.proofs.WrittenRaces.{broken_now, end_cut_now, end_now, stands_kept, stop_now, unflushed_now}
use Rattle.vme_races.proofs.judge.ReportingJudge.take.Goals as goal

pub returns-in_err-take_edges-clause-takes : goal.returns-in_err-take_edges-clause-takes
returns-in_err-take_edges-clause-takes g c =
    λ task p v es old h.
    let e = err_from_is_err_and c.from_residual.result c.from_residual.ensures.1 in
    rw (e.1, e.2)
    (broken_now p v es c.args.edges.now c.args.more old _ c.in_err-take_edges.field-0.0 (c.in_err-take_edges.ensures.breaks p v es old h))

pub returns-in_err-flush-in-Ok-true-clause-takes : goal.returns-in_err-flush-in-Ok-true-clause-takes
returns-in_err-flush-in-Ok-true-clause-takes g c =
    λ task p v es old h.
    let e = err_from_is_err_and c.from_residual-in_err-flush-in-Ok-true.result c.from_residual-in_err-flush-in-Ok-true.ensures.1 in
    rw (e.1, e.2)
    (unflushed_now p v (es ++ c.args.edges.now) c.args.more old _ _ c.take_edges.new.self
    (c.in_ok-take_edges.ensures.stands p v es old h) c.in_err-flush-in-Ok-true.field-0.0
    c.in_err-flush-in-Ok-true.ensures.fault c.in_err-flush-in-Ok-true.ensures.kept)

pub returns-in_err-finish-in-Ok-false-clause-takes : goal.returns-in_err-finish-in-Ok-false-clause-takes
returns-in_err-finish-in-Ok-false-clause-takes g c =
    λ task p v es old h.
    let e = err_from_is_err_and c.from_residual-in_err-finish-in-Ok-false.result c.from_residual-in_err-finish-in-Ok-false.ensures.1 in
    let all = es ++ c.args.edges.now in
    rw (e.1, e.2)
    (end_cut_now p v all c.args.more old (g.W.Write.contents c.take_edges.new.out) _ c.take_edges.new.self
    c.in_err-finish-in-Ok-false.field-0.0 (c.in-Ok-false.is ∙ ap (λ b. Ok b) c.in-Ok-false.field-0-test)
    c.in_err-finish-in-Ok-false.ensures.fault
    (c.in_err-finish-in-Ok-false.ensures.cut p v all old (c.in_ok-take_edges.ensures.stands p v es old h)))

pub returns-in_err-flush-in-Err-clause-takes : goal.returns-in_err-flush-in-Err-clause-takes
returns-in_err-flush-in-Err-clause-takes g c =
    λ task p v es old h.
    let e = err_from_is_err_and c.from_residual-in_err-flush-in-Err.result c.from_residual-in_err-flush-in-Err.ensures.1 in
    rw (e.1, e.2)
    (unflushed_now p v (es ++ c.args.edges.now) c.args.more old _ _ c.take_edges.new.self
    (c.in_ok-take_edges.ensures.stands p v es old h) c.in_err-flush-in-Err.field-0.0
    c.in_err-flush-in-Err.ensures.fault c.in_err-flush-in-Err.ensures.kept)

pub returns-in_ok-flush-in-Ok-true-clause-takes : goal.returns-in_ok-flush-in-Ok-true-clause-takes
returns-in_ok-flush-in-Ok-true-clause-takes g c =
    λ task p v es old h.
    stands_kept p v (es ++ c.args.edges.now) c.args.more old _ _ c.take_edges.new.self (c.in_ok-take_edges.ensures.stands p v es old h) c.in_ok-flush-in-Ok-true.ensures.kept

pub returns-else-paused-clause-takes : goal.returns-else-paused-clause-takes
returns-else-paused-clause-takes g c =
    λ task p v es old h. c.in_ok-take_edges.ensures.stands p v es old h

pub returns-in_ok-finish-in-Ok-false-clause-takes : goal.returns-in_ok-finish-in-Ok-false-clause-takes
returns-in_ok-finish-in-Ok-false-clause-takes g c =
    λ task p v es old h.
    let all = es ++ c.args.edges.now in
    let ends = c.in_ok-finish-in-Ok-false.ensures.ends p v all old (c.in_ok-take_edges.ensures.stands p v es old h) in
    end_now p v all c.args.more old (g.W.Write.contents c.take_edges.new.out) _ c.take_edges.new.self _
    (c.in-Ok-false.is ∙ ap (λ b. Ok b) c.in-Ok-false.field-0-test) ends.1 ends.0

pub returns-in_ok-flush-in-Err-clause-takes : goal.returns-in_ok-flush-in-Err-clause-takes
returns-in_ok-flush-in-Err-clause-takes g c =
    λ task p v es old h.
    stop_now p v (es ++ c.args.edges.now) c.args.more old _ _ c.take_edges.new.self (c.in_ok-take_edges.ensures.stands p v es old h) c.in-Err.fault c.in-Err.is c.in_ok-flush-in-Err.ensures.kept
