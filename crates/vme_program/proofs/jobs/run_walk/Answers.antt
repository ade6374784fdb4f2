use Rattle.std.proofs.Common.{None}
use Rattle.vme_races.specs.Asked.{PrintsWalkInput}
use Rattle.vme_program.proofs.Handing.{on_trace}
use Rattle.vme_program.proofs.jobs.run_walk.Goals as goal

pub returns-clause-done : goal.returns-clause-done
returns-clause-done g c =
    rw c.answer_of.ensures
    (on_trace _ (PrintsWalkInput c.args.edge) c.args.scenario _ None None (g.W.Write.contents c.args.out.now) (g.W.Write.contents c.walk_of_edge.new.out) c.walk_of_edge.result c.walk_of_edge.ensures)
