use Rattle.vme_program.proofs.Handing.{joined_done}
use Rattle.vme_program.proofs.jobs.run_joined.Goals as goal

pub returns-clause-done : goal.returns-clause-done
returns-clause-done g c = rw c.answer_of.ensures (joined_done _ _ _ (g.W.Write.contents c.args.out.now) (g.W.Write.contents c.joined.new.out) c.joined.result c.joined.ensures)
