use Rattle.std.proofs.Common.{Ok, take}
use Rattle.vme_moments.specs.Taking.{Takes}
use Rattle.vme_moments.proofs.reader.Reader.feed.Given as goal

abbrev pub invariant-loop-byte : goal.invariant-loop-byte
invariant-loop-byte l = Takes l.fn.self (take l.byte-index l.piece) l.self (Ok tt)
