use Rattle.std.proofs.Common.{None}
use Rattle.vme_program.proofs.Handing.{probe_done}
use Rattle.vme_program.proofs.probes.run_probe.Goals as goal

pub returns-clause-done : goal.returns-clause-done
returns-clause-done g c =
    rw c.answer_of_probe.ensures
    (probe_done c.args.scenario c.args.capture c.args.skew c.args.text.now None None (g.W.Write.contents c.args.out.now) (g.W.Write.contents c.probe.new.out) c.probe.result c.probe.ensures)
