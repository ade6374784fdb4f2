use Rattle.std.proofs.Common.{refl}
use Rattle.std.proofs.lemmas.Result.{err_from_is_err_and}
use Rattle.vme_command_line.specs.declared.Job.TheVariants.{OnScenario}
use Rattle.vme_command_line.specs.declared.Work.TheVariants.{Drive}
use Rattle.vme_program.specs.Reaching.{goal_of}
use Rattle.vme_program.proofs.Reaching.{drive_done, drive_unreached, unreached_fault}
use Rattle.vme_program.proofs.drives.run_drive.Goals as goal

pub returns-in_err-test_goal-clause-fault : goal.returns-in_err-test_goal-clause-fault
returns-in_err-test_goal-clause-fault g c =
    let e = err_from_is_err_and c.from_residual.result c.from_residual.ensures.1 in
    let why = rw c.goal_of.ensures at c.in_err-test_goal.ensures.fault in
    rw (e.1, e.2) (unreached_fault (OnScenario c.args.scenario (Drive c.args.edges c.args.version c.args.choice)) c.args.text.now c.args.scenario
    (goal_of c.args.choice) c.in_err-test_goal.field-0.0 refl why)

pub returns-in_err-test_goal-clause-done : goal.returns-in_err-test_goal-clause-done
returns-in_err-test_goal-clause-done g c =
    let e = err_from_is_err_and c.from_residual.result c.from_residual.ensures.1 in
    let why = rw c.goal_of.ensures at c.in_err-test_goal.ensures.fault in
    rw (e.1, e.2) (drive_unreached c.args.scenario c.args.text.now c.args.edges c.args.version c.args.choice (g.W.Write.contents c.args.out.now) c.in_err-test_goal.field-0.0 why)

pub returns-clause-done : goal.returns-clause-done
returns-clause-done g c =
    let free = rw c.goal_of.ensures at c.in_ok-test_goal.ensures.ok in
    rw c.answer_of.ensures
    (drive_done c.args.scenario c.args.text.now c.args.edges c.args.version c.args.choice (g.W.Write.contents c.args.out.now)
    (g.W.Write.contents c.do_drive.new.out) c.do_drive.result free c.do_drive.ensures)
