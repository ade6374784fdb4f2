use Rattle.std.proofs.Common.{refl}
use Rattle.std.proofs.lemmas.Result.{err_from_is_err_and}
use Rattle.std.proofs.KnownBytes.{Keeps-refl}
use Rattle.vme_command_line.specs.declared.Job.TheVariants.{OnScenario}
use Rattle.vme_command_line.specs.declared.Work.TheVariants.{Checks}
use Rattle.vme_command_line.specs.Asked.{texts_of}
use Rattle.vme_program.specs.CheckedFiles.{ChecksFiles}
use Rattle.vme_program.specs.Done.{Fails, Stops}
use Rattle.vme_program.proofs.CheckedFiles.{checks_cut, checks_done, plan_fault, unplanned}
use Rattle.vme_program.proofs.jobs.run_checks.Goals as goal

pub returns-in_err-test_plan-clause-fault : goal.returns-in_err-test_plan-clause-fault
returns-in_err-test_plan-clause-fault g c =
    let e = err_from_is_err_and c.from_residual.result c.from_residual.ensures.1 in
    let no = c.in_err-test_plan.ensures.fault in
    rw (e.1, e.2, no.2) (plan_fault (OnScenario c.args.scenario (Checks c.args.traces)) c.args.text.now c.args.scenario no.0 refl no.1)

pub returns-in_err-test_plan-clause-done : goal.returns-in_err-test_plan-clause-done
returns-in_err-test_plan-clause-done g c =
    let e = err_from_is_err_and c.from_residual.result c.from_residual.ensures.1 in
    let no = c.in_err-test_plan.ensures.fault in
    rw (e.1, e.2, no.2)
    (unplanned c.args.text.now (ChecksFiles (texts_of c.args.traces.items) (g.W.Write.contents c.args.out.now) (g.W.Write.contents c.args.out.now)) (g.W.Write.contents c.args.out.now)
    (g.W.Write.contents c.args.out.now) (Stops (OnScenario c.args.scenario (Checks c.args.traces)))
    (Fails (OnScenario c.args.scenario (Checks c.args.traces)) (g.W.Write.contents c.args.out.now) (g.W.Write.contents c.args.out.now)) c.args.scenario no.0 (Keeps-refl _) no.1)

pub returns-in-Ok-clause-done : goal.returns-in-Ok-clause-done
returns-in-Ok-clause-done g c =
    let plan = c.in_ok-test_plan.ensures.ok in
    checks_done c.args.text.now (texts_of c.args.traces.items) (g.W.Write.contents c.args.out.now) (g.W.Write.contents c.check_files.new.out)
    (Stops (OnScenario c.args.scenario (Checks c.args.traces))) plan
    (Fails (OnScenario c.args.scenario (Checks c.args.traces)) (g.W.Write.contents c.args.out.now) (g.W.Write.contents c.check_files.new.out)) (λ h. h) c.in-Ok.seen c.status.result
    ((rw c.deref.ensures.value at c.in-Ok.ensures) plan.0 plan.1 plan.2) c.status.ensures

pub returns-clause-done : goal.returns-clause-done
returns-clause-done g c =
    let plan = c.in_ok-test_plan.ensures.ok in
    checks_cut c.args.text.now (texts_of c.args.traces.items) (g.W.Write.contents c.args.out.now) (g.W.Write.contents c.check_files.new.out)
    (Stops (OnScenario c.args.scenario (Checks c.args.traces))) plan
    (Fails (OnScenario c.args.scenario (Checks c.args.traces)) (g.W.Write.contents c.args.out.now) (g.W.Write.contents c.check_files.new.out)) c.in-Err.fault
    ((rw c.deref.ensures.value at c.in-Err.ensures) plan.0 plan.1 plan.2)
