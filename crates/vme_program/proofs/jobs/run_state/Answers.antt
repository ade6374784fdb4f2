use Rattle.std.proofs.Common.{None}
use Rattle.vme_following.specs.Stating.{StatesInput}
use Rattle.vme_program.proofs.Handing.{on_trace}
use Rattle.vme_program.proofs.jobs.run_state.Goals as goal

pub returns-clause-done : goal.returns-clause-done
returns-clause-done g c =
    rw c.answer_of.ensures
    (on_trace _ (StatesInput c.args.after) c.args.scenario _ None None (g.W.Write.contents c.args.out.now) (g.W.Write.contents c.state.new.out) c.state.result c.state.ensures)
