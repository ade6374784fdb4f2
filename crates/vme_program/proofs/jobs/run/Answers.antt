use Rattle.std.proofs.Common.{sym, subst}
use Rattle.vme_command_line.specs.declared.Job.{Job}
use Rattle.vme_program.specs.Done.{IsDone}
use Rattle.vme_program.proofs.jobs.run.Goals as goal

pub returns-in-State-clause-done : goal.returns-in-State-clause-done
returns-in-State-clause-done g c =
    subst (λ (job : Job). IsDone job (g.W.Write.contents c.args.out.now) (g.W.Write.contents c.run_state.new.out) c.run_state.result)
    (sym c.in-State.is) c.run_state.ensures.done

pub returns-in-Show-clause-done : goal.returns-in-Show-clause-done
returns-in-Show-clause-done g c =
    subst (λ (job : Job). IsDone job (g.W.Write.contents c.args.out.now) (g.W.Write.contents c.run_show.new.out) c.run_show.result)
    (sym c.in-Show.is) c.run_show.ensures.done

pub returns-in-Search-clause-done : goal.returns-in-Search-clause-done
returns-in-Search-clause-done g c =
    subst (λ (job : Job). IsDone job (g.W.Write.contents c.args.out.now) (g.W.Write.contents c.run_search.new.out) c.run_search.result)
    (sym c.in-Search.is) c.run_search.ensures.done
