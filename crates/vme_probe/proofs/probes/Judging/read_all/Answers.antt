use Rattle.std.proofs.Common.{[], Option, Ok, subst}
use Rattle.std.proofs.lemmas.Result.{err_from_is_err_and}
use Rattle.vme_reading.specs.declared.Status.{Status}
use Rattle.vme_probe.specs.Reads.{ReadTaken, skew_of}
use Rattle.vme_probe.proofs.Answered.{not_read, reads_new}
use Rattle.vme_probe.proofs.probes.Judging.read_all.Goals as goal

pub reads-init : goal.reads-init
reads-init g c = record {
  some = ([], [], c.requires.read c.args.plan.now);
  to = reads_new c.args.plan.now (skew_of c.args.self.now.sampling) c.args.self.now (g.R.Read.remaining c.args.capture.now) (g.W.Write.contents c.args.out.now) c.requires;
}

pub take_read-requires : goal.take_read-requires
take_read-requires g c = c.reads.invariant.some

pub returns-in_err-status : goal.returns-in_err-status
returns-in_err-status g c =
    let e = err_from_is_err_and c.from_residual.result c.from_residual.ensures.1 in
    rw (e.1, e.2) (c.in_err-status.ensures.taken _ _ _ c.reads.invariant.to)

pub returns-in-Some : goal.returns-in-Some
returns-in-Some g c =
    subst (λ (o : Option Status). ReadTaken c.args.plan.now (skew_of c.args.self.now.sampling) c.take_read.new.self (g.R.Read.remaining c.args.capture.now) (g.R.Read.remaining c.take_read.new.capture)
    (g.W.Write.contents c.args.out.now) (g.W.Write.contents c.take_read.new.out) (Ok o)) c.in-Some.is
    (c.in_ok-status.ensures.taken _ _ _ c.reads.invariant.to)

pub reads-preserved : goal.reads-preserved
reads-preserved g c = record {
  some = c.in_ok-status.ensures.reads;
  to =
      subst (λ (o : Option Status). ReadTaken c.args.plan.now (skew_of c.args.self.now.sampling) c.take_read.new.self (g.R.Read.remaining c.args.capture.now)
      (g.R.Read.remaining c.take_read.new.capture) (g.W.Write.contents c.args.out.now) (g.W.Write.contents c.take_read.new.out) (Ok o)) c.in_default.is
      (c.in_ok-status.ensures.taken _ _ _ c.reads.invariant.to);
}

pub returns : goal.returns
returns g c =
    not_read c.args.plan.now (skew_of c.args.self.now.sampling) (g.R.Read.remaining c.args.capture.now) (g.R.Read.remaining c.reads.capture) (g.W.Write.contents c.args.out.now)
    (g.W.Write.contents c.reads.out) c.reads.self c.reads.invariant.to
