use Rattle.std.proofs.lemmas.Result.{err_from_is_err_and}
use Rattle.vme_probe.specs.Reads.{skew_of}
use Rattle.vme_probe.proofs.Answered.{fault_cut, fault_flushed}
use Rattle.vme_probe.proofs.probes.Judging.judge.Goals as goal

pub returns-in_err-flush-in-Err : goal.returns-in_err-flush-in-Err
returns-in_err-flush-in-Err g c =
    let e = err_from_is_err_and c.from_residual.result c.from_residual.ensures.1 in
    rw (e.1, e.2)
    (fault_cut c.args.plan.now (skew_of c.args.self.now.sampling) (g.R.Read.remaining c.args.capture.now) (g.R.Read.remaining c.read_all.new.capture) (g.W.Write.contents c.args.out.now)
    (g.W.Write.contents c.read_all.new.out) (g.W.Write.contents c.flush.new.out)
    c.in_err-flush-in-Err.ensures.kept c.in_err-flush-in-Err.field-0.0 c.in_err-flush-in-Err.ensures.fault c.in-Err.fault c.in-Err.ensures)

pub returns-in_ok-flush-in-Err : goal.returns-in_ok-flush-in-Err
returns-in_ok-flush-in-Err g c =
    fault_flushed c.args.plan.now (skew_of c.args.self.now.sampling) (g.R.Read.remaining c.args.capture.now) (g.R.Read.remaining c.read_all.new.capture) (g.W.Write.contents c.args.out.now)
    (g.W.Write.contents c.read_all.new.out) (g.W.Write.contents c.flush.new.out)
    c.in_ok-flush-in-Err.ensures.kept c.in-Err.fault c.in-Err.ensures
