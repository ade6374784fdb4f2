use Rattle.std.proofs.Common.{None}
use Rattle.vme_program.proofs.Handing.{on_trace}
use Rattle.vme_program.proofs.tasks.run_on_trace.Goals as goal

pub returns-clause-done : goal.returns-clause-done
returns-clause-done g c =
    rw c.answer_of.ensures
    (on_trace c.args.scenario c.args.trace c.args.text.now c.args.task None None (g.W.Write.contents c.args.out.now) (g.W.Write.contents c.do_task.new.out) c.do_task.result c.do_task.ensures)
