use Rattle.std.proofs.Common.{None}
use Rattle.vme_show.specs.Showing.{ShowsInput}
use Rattle.vme_program.proofs.Handing.{on_trace}
use Rattle.vme_program.proofs.jobs.run_show.Goals as goal

pub returns-clause-done : goal.returns-clause-done
returns-clause-done g c =
    rw c.answer_of.ensures
    (on_trace _ (ShowsInput c.args.from c.args.to c.args.color) c.args.scenario _ None None (g.W.Write.contents c.args.out.now) (g.W.Write.contents c.show.new.out) c.show.result c.show.ensures)
