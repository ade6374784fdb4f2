use Rattle.std.proofs.Common.{None}
use Rattle.vme_reading.specs.Streams.{streams}
use Rattle.vme_program.proofs.Compared.{same_faulty, same_found}
use Rattle.vme_program.proofs.jobs.run_same.Goals as goal

pub returns-clause-done : goal.returns-clause-done
returns-clause-done g c =
    rw c.of_pair.ensures
    (same_faulty c.args.scenario c.args.trace c.args.other _ (streams None None None None) (streams None None None None) (g.W.Write.contents c.args.out.now) c.in-Err.fault c.in-Err.ensures.reads)

pub returns-in-Ok-clause-done : goal.returns-in-Ok-clause-done
returns-in-Ok-clause-done g c =
    same_found c.args.scenario c.args.trace c.args.other _ (streams None None None None) (streams None None None None) (g.W.Write.contents c.args.out.now)
    (g.W.Write.contents c.report_comparison.new.out)
    c.in-Ok.found c.report_comparison.result c.in-Ok.ensures.reads c.report_comparison.ensures.ok c.report_comparison.ensures.front c.report_comparison.ensures.fault
