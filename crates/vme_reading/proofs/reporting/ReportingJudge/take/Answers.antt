use Rattle.std.proofs.Common.{◌++◌, ◌∙◌, Ok, ap}
use Rattle.std.proofs.lemmas.Result.{err_from_is_err_and}
use Rattle.vme_reading.proofs.ReportedEdges.{ended, ended_cut, kept_on, stopped, stopped_among, unflushed}
use Rattle.vme_reading.proofs.reporting.ReportingJudge.take.Goals as goal

pub returns-in_err-see_all-clause-takes : goal.returns-in_err-see_all-clause-takes
returns-in_err-see_all-clause-takes g c = λ task p v es old h.
    let e = err_from_is_err_and c.from_residual.result c.from_residual.ensures.1 in
    rw (e.1, e.2)
    (stopped_among (g.S.AtEach.lines task) (g.S.AtEach.text task) g.S.AtEach.fails p v old _ es c.args.edges.now c.args.more c.in_err-see_all.field-0.0
    (c.in_err-see_all.ensures.stops task p v es old h))

pub returns-in_err-flush-in-Ok-true-clause-takes : goal.returns-in_err-flush-in-Ok-true-clause-takes
returns-in_err-flush-in-Ok-true-clause-takes g c = λ task p v es old h.
    let e = err_from_is_err_and c.from_residual-in_err-flush-in-Ok-true.result c.from_residual-in_err-flush-in-Ok-true.ensures.1 in
    let wrote = c.in_ok-see_all.ensures.knows task p v es old h in
    rw (e.1, e.2)
    (unflushed (g.S.AtEach.lines task) (g.S.AtEach.text task) g.S.AtEach.fails p v old _ (es ++ c.args.edges.now) c.args.more _
    c.in_err-flush-in-Ok-true.field-0.0 c.in_err-flush-in-Ok-true.ensures.fault c.in_err-flush-in-Ok-true.ensures.kept
    (wrote.0, g.S.AtEach.told task p v (es ++ c.args.edges.now) wrote.0 c.see_all.new.self wrote.1, wrote.2))

pub returns-in_err-flush-in-Err-clause-takes : goal.returns-in_err-flush-in-Err-clause-takes
returns-in_err-flush-in-Err-clause-takes g c = λ task p v es old h.
    let e = err_from_is_err_and c.from_residual-in_err-flush-in-Err.result c.from_residual-in_err-flush-in-Err.ensures.1 in
    let wrote = c.in_ok-see_all.ensures.knows task p v es old h in
    rw (e.1, e.2)
    (unflushed (g.S.AtEach.lines task) (g.S.AtEach.text task) g.S.AtEach.fails p v old _ (es ++ c.args.edges.now) c.args.more _
    c.in_err-flush-in-Err.field-0.0 c.in_err-flush-in-Err.ensures.fault c.in_err-flush-in-Err.ensures.kept
    (wrote.0, g.S.AtEach.told task p v (es ++ c.args.edges.now) wrote.0 c.see_all.new.self wrote.1, wrote.2))

pub returns-in_err-finish-in-Ok-false-clause-takes : goal.returns-in_err-finish-in-Ok-false-clause-takes
returns-in_err-finish-in-Ok-false-clause-takes g c = λ task p v es old h.
    let e = err_from_is_err_and c.from_residual-in_err-finish-in-Ok-false.result c.from_residual-in_err-finish-in-Ok-false.ensures.1 in
    let all = es ++ c.args.edges.now in
    rw (e.1, e.2)
    (ended_cut (g.S.AtEach.lines task) (g.S.AtEach.text task) g.S.AtEach.fails p v old _ all c.args.more
    (c.in-Ok-false.is ∙ ap (λ b. Ok b) c.in-Ok-false.field-0-test) c.in_err-finish-in-Ok-false.field-0.0 c.in_err-finish-in-Ok-false.ensures.fault
    (c.in_err-finish-in-Ok-false.ensures.cut task p v all old (c.in_ok-see_all.ensures.knows task p v es old h)))

pub returns-in_ok-flush-in-Ok-true-clause-takes : goal.returns-in_ok-flush-in-Ok-true-clause-takes
returns-in_ok-flush-in-Ok-true-clause-takes g c = λ task p v es old h.
    kept_on (λ p v es bytes. g.S.AtEach.knows task p v es bytes c.see_all.new.self) (g.S.AtEach.text task) g.S.AtEach.fails p v old _ (es ++ c.args.edges.now) c.args.more _
    c.in_ok-flush-in-Ok-true.ensures.kept (c.in_ok-see_all.ensures.knows task p v es old h)

pub returns-else-paused-clause-takes : goal.returns-else-paused-clause-takes
returns-else-paused-clause-takes g c = λ task p v es old h. c.in_ok-see_all.ensures.knows task p v es old h

pub returns-in_ok-finish-in-Ok-false-clause-takes : goal.returns-in_ok-finish-in-Ok-false-clause-takes
returns-in_ok-finish-in-Ok-false-clause-takes g c = λ task p v es old h.
    let all = es ++ c.args.edges.now in
    let ends = c.in_ok-finish-in-Ok-false.ensures.ends task p v all old (c.in_ok-see_all.ensures.knows task p v es old h) in
    ended (g.S.AtEach.lines task) (g.S.AtEach.text task) g.S.AtEach.fails p v old _ all c.args.more
    (c.in-Ok-false.is ∙ ap (λ b. Ok b) c.in-Ok-false.field-0-test) _ ends.1 ends.0

pub returns-in_ok-flush-in-Err-clause-takes : goal.returns-in_ok-flush-in-Err-clause-takes
returns-in_ok-flush-in-Err-clause-takes g c = λ task p v es old h.
    let wrote = c.in_ok-see_all.ensures.knows task p v es old h in
    stopped (g.S.AtEach.lines task) (g.S.AtEach.text task) g.S.AtEach.fails p v old _ (es ++ c.args.edges.now) c.args.more _ c.in-Err.fault c.in-Err.is c.in_ok-flush-in-Err.ensures.kept
    (wrote.0, g.S.AtEach.told task p v (es ++ c.args.edges.now) wrote.0 c.see_all.new.self wrote.1, wrote.2)
