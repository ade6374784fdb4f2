use Rattle.std.proofs.Common.{List, ℕ, Ok, Err, refl, subst}
use Rattle.std.specs.Borrow.{Bor}
use Rattle.std.proofs.lemmas.Result.{err_from_is_err_and}
use Rattle.std.proofs.KnownBytes.{Keeps-refl}
use Rattle.vme_command_line.specs.declared.Job.TheVariants.{OnScenario}
use Rattle.vme_command_line.specs.declared.Work.TheVariants.{Sums}
use Rattle.vme_command_line.specs.Asked.{texts_of}
use Rattle.vme_program.specs.Adding.{SumsAll}
use Rattle.vme_program.specs.Done.{Fails, Stops}
use Rattle.vme_program.specs.Together.{SumsFiles}
use Rattle.vme_program.proofs.Adding.{job_cut, job_done, some_fault}
use Rattle.vme_program.proofs.CheckedFiles.{plan_fault, unplanned}
use Rattle.vme_program.proofs.jobs.run_sums.Goals as goal

pub returns-in_err-plan-clause-fault : goal.returns-in_err-plan-clause-fault
returns-in_err-plan-clause-fault g c =
    let e = err_from_is_err_and c.from_residual.result c.from_residual.ensures.1 in
    let no = c.in_err-plan.ensures.fault in
    rw (e.1, e.2, no.2) (plan_fault (OnScenario c.args.scenario (Sums c.args.traces)) c.args.text.now c.args.scenario no.0 refl no.1)

pub returns-in_err-plan-clause-done : goal.returns-in_err-plan-clause-done
returns-in_err-plan-clause-done g c =
    let e = err_from_is_err_and c.from_residual.result c.from_residual.ensures.1 in
    let no = c.in_err-plan.ensures.fault in
    rw (e.1, e.2, no.2)
    (unplanned c.args.text.now (SumsFiles (texts_of c.args.traces.items) (g.W.Write.contents c.args.out.now) (g.W.Write.contents c.args.out.now)) (g.W.Write.contents c.args.out.now)
    (g.W.Write.contents c.args.out.now) (Stops (OnScenario c.args.scenario (Sums c.args.traces)))
    (Fails (OnScenario c.args.scenario (Sums c.args.traces)) (g.W.Write.contents c.args.out.now) (g.W.Write.contents c.args.out.now)) c.args.scenario no.0 (Keeps-refl _) no.1)

pub returns-in-Ok-clause-fault : goal.returns-in-Ok-clause-fault
returns-in-Ok-clause-fault g c = some_fault (OnScenario c.args.scenario (Sums c.args.traces)) c.status.result c.status.ensures.fault

pub returns-in-Ok-clause-done : goal.returns-in-Ok-clause-done
returns-in-Ok-clause-done g c =
    job_done c.args.text.now (texts_of c.args.traces.items) (g.W.Write.contents c.args.out.now) (g.W.Write.contents c.sum_files.new.out)
    (Stops (OnScenario c.args.scenario (Sums c.args.traces))) c.in_ok-plan.plan c.in_ok-plan.ensures.ok
    (Fails (OnScenario c.args.scenario (Sums c.args.traces)) (g.W.Write.contents c.args.out.now) (g.W.Write.contents c.sum_files.new.out)) (λ h. h) c.in-Ok.added c.status.result
    (subst (λ (l : List (Bor (List ℕ))). SumsAll (texts_of l) (g.W.Write.contents c.args.out.now) (g.W.Write.contents c.sum_files.new.out)
    (Ok c.in-Ok.added) c.in_ok-plan.plan) c.deref.ensures.value c.in-Ok.ensures) c.status.ensures.status

pub returns-clause-done : goal.returns-clause-done
returns-clause-done g c =
    job_cut c.args.text.now (texts_of c.args.traces.items) (g.W.Write.contents c.args.out.now) (g.W.Write.contents c.sum_files.new.out)
    (Stops (OnScenario c.args.scenario (Sums c.args.traces))) c.in_ok-plan.plan c.in_ok-plan.ensures.ok
    (Fails (OnScenario c.args.scenario (Sums c.args.traces)) (g.W.Write.contents c.args.out.now) (g.W.Write.contents c.sum_files.new.out)) c.in-Err.fault
    (subst (λ (l : List (Bor (List ℕ))). SumsAll (texts_of l) (g.W.Write.contents c.args.out.now) (g.W.Write.contents c.sum_files.new.out)
    (Err c.in-Err.fault) c.in_ok-plan.plan) c.deref.ensures.value c.in-Err.ensures)
