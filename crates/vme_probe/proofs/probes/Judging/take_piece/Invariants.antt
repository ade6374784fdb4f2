use Rattle.std.proofs.Common.{◌++◌, ℕ, List, Option, take}
use Rattle.vme_probe.specs.Reads.{IsAt, ReadsSome}
use Rattle.vme_probe.proofs.probes.Judging.take_piece.Given as goal

abbrev pub invariant-loop-at : goal.invariant-loop-at
invariant-loop-at g l = record {
  reads : ReadsSome l.plan l.self;
  at : (skew : Option ℕ) (bytes : List ℕ) (from : Option (List ℕ)) → IsAt l.plan skew l.fn.self bytes from (g.W.Write.contents l.fn.out)
      → IsAt l.plan skew l.self (bytes ++ take l.at l.piece) from (g.W.Write.contents l.out);
}
