use Rattle.vme_jobs.proofs.Adding.{sums_done}
use Rattle.vme_jobs.proofs.jobs.run_sums.Goals as goal

pub returns-clause-done : goal.returns-clause-done
returns-clause-done g c =
    rw c.told.ensures
    (sums_done _ c.args.scenario _ _ c.in_ok-sums.sums (g.W.Write.contents c.args.out.now) (g.W.Write.contents c.tell_sums.new.out) c.tell_sums.result c.in_ok-sums.ensures c.tell_sums.ensures)
