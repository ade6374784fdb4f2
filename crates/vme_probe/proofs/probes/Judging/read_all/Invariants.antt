use Rattle.vme_probe.specs.Reads.{ReadsSome, ReadsTo, skew_of}
use Rattle.vme_probe.proofs.probes.Judging.read_all.Given as goal

abbrev pub invariant-reads : goal.invariant-reads
invariant-reads g l = record {
  some : ReadsSome l.plan l.self;
  to : ReadsTo l.plan (skew_of l.fn.self.sampling) l.self (g.R.Read.remaining l.fn.capture) (g.R.Read.remaining l.capture) (g.W.Write.contents l.fn.out) (g.W.Write.contents l.out);
}
