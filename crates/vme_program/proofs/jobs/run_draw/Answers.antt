use Rattle.std.proofs.Common.{refl}
use Rattle.std.proofs.lemmas.Result.{err_from_is_err_and}
use Rattle.vme_command_line.specs.declared.Job.TheVariants.{Draw}
use Rattle.vme_program.proofs.Reaching.{draw_done, draw_unreached, unreached_fault}
use Rattle.vme_program.proofs.jobs.run_draw.Goals as goal

pub returns-in_err-test_goal-clause-fault : goal.returns-in_err-test_goal-clause-fault
returns-in_err-test_goal-clause-fault g c =
    let e = err_from_is_err_and c.from_residual-in_err-test_goal.result c.from_residual-in_err-test_goal.ensures.1 in
    rw (e.1, e.2) (unreached_fault (Draw c.args.scenario c.args.edges c.args.seed c.args.until c.args.version) c.deref.result.now c.args.scenario c.args.until c.in_err-test_goal.field-0.0 refl c.in_err-test_goal.ensures.fault)

pub returns-in_err-test_goal-clause-done : goal.returns-in_err-test_goal-clause-done
returns-in_err-test_goal-clause-done g c =
    let e = err_from_is_err_and c.from_residual-in_err-test_goal.result c.from_residual-in_err-test_goal.ensures.1 in
    rw (e.1, e.2) (draw_unreached c.args.scenario c.deref.result.now c.args.edges c.args.seed c.args.until c.args.version (g.W.Write.contents c.args.out.now) c.in_err-test_goal.field-0.0 c.in_err-test_goal.ensures.fault)

pub returns-clause-done : goal.returns-clause-done
returns-clause-done g c =
    let free = rw c.deref.ensures.value at c.in_ok-test_goal.ensures.ok in
    let does = rw c.deref-2.ensures.value at c.drive_drawn.ensures.outcome in
    rw c.answer_of.ensures
    (draw_done c.args.scenario c.in_ok-text.text.items c.args.edges c.args.seed c.args.until c.args.version (g.W.Write.contents c.args.out.now) (g.W.Write.contents c.drive_drawn.new.out) c.drive_drawn.result free does)
