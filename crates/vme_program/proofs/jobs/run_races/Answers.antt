use Rattle.std.proofs.Common.{None}
use Rattle.vme_races.specs.Outcomes.{ReportsInput}
use Rattle.vme_program.proofs.Handing.{on_trace}
use Rattle.vme_program.proofs.jobs.run_races.Goals as goal

pub returns-clause-done : goal.returns-clause-done
returns-clause-done g c =
    rw c.answer_of.ensures
    (on_trace _ ReportsInput c.args.scenario _ None None (g.W.Write.contents c.args.out.now) (g.W.Write.contents c.races.new.out) c.races.result c.races.ensures)
