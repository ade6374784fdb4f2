use Rattle.std.proofs.Common.{None}
use Rattle.vme_shrink.specs.Shrinking.{ShrinksInput}
use Rattle.vme_program.proofs.Handing.{on_trace}
use Rattle.vme_program.proofs.jobs.run_shrink.Goals as goal

pub returns-clause-done : goal.returns-clause-done
returns-clause-done g c =
    rw c.answer_of.ensures
    (on_trace _ (ShrinksInput c.args.edge) c.args.scenario _ None None (g.W.Write.contents c.args.out.now) (g.W.Write.contents c.shrink.new.out) c.shrink.result c.shrink.ensures)
