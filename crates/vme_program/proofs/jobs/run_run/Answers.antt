use Rattle.vme_program.proofs.Handing.{run_done}
use Rattle.vme_program.proofs.jobs.run_run.Goals as goal

pub returns-clause-done : goal.returns-clause-done
returns-clause-done g c =
    rw c.answer_of_run.ensures (run_done c.args.scenario _ c.args.edges c.args.turns c.args.version (g.W.Write.contents c.args.out.now) (g.W.Write.contents c.run.new.out) c.run.result c.run.ensures)
