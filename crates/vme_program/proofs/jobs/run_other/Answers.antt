use Rattle.std.proofs.Common.{None}
use Rattle.vme_program.proofs.Handing.{other_done}
use Rattle.vme_program.proofs.jobs.run_other.Goals as goal

pub returns-clause-done : goal.returns-clause-done
returns-clause-done g c =
    rw c.answer_of_other.ensures
    (other_done c.args.scenario c.args.trace _ c.args.edge None None (g.W.Write.contents c.args.out.now)
    (g.W.Write.contents c.other_order-answer.new.out) c.other_order-answer.result c.other_order-answer.ensures)
