use Rattle.std.proofs.Common.{Ok, Err}
use Rattle.std.proofs.lemmas.Result.{err_from_is_err_and}
use Rattle.vme_drive.proofs.FoundSeeds.{attempt_came, attempt_fault, attempt_kept, redrawn, safely_redrawn}
use Rattle.vme_drive.proofs.seeds.attempt.Goals as goal

pub returns-in_err-comes_to-clause-outcome : goal.returns-in_err-comes_to-clause-outcome
returns-in_err-comes_to-clause-outcome g c =
    let w = c.args.walk.now in
    let e = err_from_is_err_and c.from_residual.result c.from_residual.ensures.1 in
    rw (e.1, e.2) (attempt_fault w.state.plan w.state.version c.args.seed c.args.edges c.args.goal (g.W.Write.contents c.args.out.now) c.in_err-comes_to.field-0.0 c.in_err-comes_to.ensures.fault)

pub returns-then-not-branch-clause-kept : goal.returns-then-not-branch-clause-kept
returns-then-not-branch-clause-kept g c =
    let w = c.args.walk.now in
    λ same. attempt_kept w.state.plan w.state.version c.args.seed c.args.edges c.args.goal c.restart.new.self c.restart.ensures c.comes_to.new.walk.state c.in_ok-comes_to.ensures.state

pub returns-in_err-draw_trace-clause-outcome : goal.returns-in_err-draw_trace-clause-outcome
returns-in_err-draw_trace-clause-outcome g c =
    let w = c.args.walk.now in
    let e = err_from_is_err_and c.from_residual-in_err-draw_trace.result c.from_residual-in_err-draw_trace.ensures.1 in
    rw (e.1, e.2) (redrawn _ _ _ c.args.edges c.args.goal _ c.restart.ensures _ c.in_ok-comes_to.ensures.state _ c.restart-2.ensures
    (g.W.Write.contents c.args.out.now) (g.W.Write.contents c.draw_trace.new.out) (Err c.in_err-draw_trace.field-0.0) c.in_err-draw_trace.ensures.outcome)

pub returns-clause-outcome : goal.returns-clause-outcome
returns-clause-outcome g c =
    let w = c.args.walk.now in
    attempt_came _ _ _ c.args.edges c.args.goal _ c.restart.ensures _ _ _ _
    c.in_ok-comes_to.ensures.answer c.if-not-branch.false (redrawn _ _ _ c.args.edges c.args.goal _ c.restart.ensures _ c.in_ok-comes_to.ensures.state _ c.restart-2.ensures
    (g.W.Write.contents c.args.out.now) (g.W.Write.contents c.draw_trace.new.out) (Ok c.in_ok-draw_trace.field-0) c.in_ok-draw_trace.ensures.outcome)

pub returns-clause-safe : goal.returns-clause-safe
returns-clause-safe g c =
    let w = c.args.walk.now in
    λ has_come.
    safely_redrawn _ _ _ c.args.edges c.args.goal _ c.restart.ensures _ c.in_ok-comes_to.ensures.state _ c.restart-2.ensures c.in_ok-draw_trace.ensures.safe
