use Rattle.std.proofs.Common.{Some, refl}
use Rattle.std.proofs.lemmas.Result.{err_from_is_err_and}
use Rattle.vme_command_line.specs.declared.Job.TheVariants.{Search}
use Rattle.vme_program.proofs.Reaching.{search_done, search_unreached, unreached_fault}
use Rattle.vme_program.proofs.jobs.run_search.Goals as goal

pub returns-in_err-test_goal-clause-fault : goal.returns-in_err-test_goal-clause-fault
returns-in_err-test_goal-clause-fault g c =
    let e = err_from_is_err_and c.from_residual-in_err-test_goal.result c.from_residual-in_err-test_goal.ensures.1 in
    rw (e.1, e.2)
    (unreached_fault (Search c.args.scenario c.args.edges c.args.first c.args.last c.args.goal c.args.version c.args.progress) c.deref.result.now c.args.scenario (Some c.args.goal) c.in_err-test_goal.field-0.0 refl c.in_err-test_goal.ensures.fault)

pub returns-in_err-test_goal-clause-done : goal.returns-in_err-test_goal-clause-done
returns-in_err-test_goal-clause-done g c =
    let e = err_from_is_err_and c.from_residual-in_err-test_goal.result c.from_residual-in_err-test_goal.ensures.1 in
    rw (e.1, e.2)
    (search_unreached c.args.scenario c.deref.result.now c.args.edges c.args.first c.args.last c.args.goal c.args.version c.args.progress (g.W.Write.contents c.args.out.now) c.in_err-test_goal.field-0.0 c.in_err-test_goal.ensures.fault)

pub returns-clause-done : goal.returns-clause-done
returns-clause-done g c =
    let free = rw c.deref.ensures.value at c.in_ok-test_goal.ensures.ok in
    let does = rw c.deref-2.ensures.value at c.drive_found-found.ensures.outcome in
    rw c.answer_of_seeds.ensures
    (search_done c.args.scenario c.in_ok-text.text.items c.args.edges c.args.first c.args.last c.args.goal c.args.version c.args.progress (g.W.Write.contents c.args.out.now) (g.W.Write.contents c.drive_found-found.new.out) c.drive_found-found.result free does)
