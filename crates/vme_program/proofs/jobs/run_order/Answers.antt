use Rattle.std.proofs.Common.{None}
use Rattle.vme_program.proofs.Handing.{order_done}
use Rattle.vme_program.proofs.jobs.run_order.Goals as goal

pub returns-clause-done : goal.returns-clause-done
returns-clause-done g c =
    rw c.answer_of_order.ensures
    (order_done c.args.scenario c.args.moments c.args.text.now c.args.slacks.now c.args.places c.args.progress c.form_of-form.result None None (g.W.Write.contents c.args.out.now)
    (g.W.Write.contents c.order.new.out) c.order.result c.form_of-form.ensures c.order.ensures)
