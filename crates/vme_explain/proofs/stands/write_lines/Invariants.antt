use Rattle.std.proofs.Common.{take}
use Rattle.std.specs.Io.KnownBytes.{Appends}
use Rattle.vme_explain.specs.Traced.{OfTrace}
use Rattle.vme_explain.specs.Standing.{lines_for, topic_text}
use Rattle.vme_explain.proofs.stands.write_lines.Given as goal

abbrev pub invariant-loop-driver : goal.invariant-loop-driver
invariant-loop-driver g l = OfTrace l.bus l.marks (λ k.
    Appends (g.W.Write.contents l.fn.out) (g.W.Write.contents l.out) (lines_for (topic_text l.topic l.bus k) (take l.driver-index l.driver-items)))
