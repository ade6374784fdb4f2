use Rattle.std.specs.List.{All}
use Rattle.vme_explain.specs.Blocks.{IsSpoken, witness_line}
use Rattle.vme_explain.proofs.WrittenPieces.{WroteTo}
use Rattle.vme_explain.proofs.blocks.write_witnesses.Given as goal

abbrev pub invariant-loop-witness : goal.invariant-loop-witness
invariant-loop-witness g l =
    All IsSpoken l.witnesses → WroteTo witness_line l.witnesses (g.W.Write.contents l.fn.out) (g.W.Write.contents l.out) l.witness-index
