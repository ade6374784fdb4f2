use Rattle.std.specs.Io.KnownBytes.{Keeps}
use Rattle.vme_trace.proofs.patience.write_patiently.Given as goal

abbrev pub invariant-loop : goal.invariant-loop
invariant-loop g l = Keeps (g.W.Write.contents l.fn.out) (g.W.Write.contents l.out)
