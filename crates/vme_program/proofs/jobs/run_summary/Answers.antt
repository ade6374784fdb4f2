use Rattle.std.proofs.Common.{None}
use Rattle.vme_summary.specs.Summing.{SumsInput}
use Rattle.vme_program.proofs.Handing.{on_trace}
use Rattle.vme_program.proofs.jobs.run_summary.Goals as goal

pub returns-clause-done : goal.returns-clause-done
returns-clause-done g c =
    rw c.answer_of.ensures
    (on_trace _ SumsInput c.args.scenario _ None None (g.W.Write.contents c.args.out.now) (g.W.Write.contents c.summary.new.out) c.summary.result c.summary.ensures)
