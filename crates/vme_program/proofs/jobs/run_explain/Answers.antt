use Rattle.std.proofs.Common.{None}
use Rattle.vme_following.specs.Explaining.{ExplainsInput}
use Rattle.vme_program.proofs.Handing.{on_trace}
use Rattle.vme_program.proofs.jobs.run_explain.Goals as goal

pub returns-clause-done : goal.returns-clause-done
returns-clause-done g c =
    rw c.answer_of.ensures
    (on_trace _ (ExplainsInput c.args.edge) c.args.scenario _ None None (g.W.Write.contents c.args.out.now) (g.W.Write.contents c.explain.new.out) c.explain.result c.explain.ensures)
