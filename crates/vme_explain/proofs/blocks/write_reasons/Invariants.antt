use Rattle.vme_model.specs.Why.{reason_lines}
use Rattle.vme_explain.specs.Blocks.{reason}
use Rattle.vme_explain.specs.Traced.{OfTrace}
use Rattle.vme_explain.proofs.WrittenPieces.{WroteTo}
use Rattle.vme_explain.proofs.blocks.write_reasons.Given as goal

abbrev pub invariant-loop-tested : goal.invariant-loop-tested
invariant-loop-tested g l =
    OfTrace l.fn.bus l.fn.marks
    (λ k. WroteTo (λ t. reason_lines l.fn.bus l.fn.edge (reason l.fn.bus k l.fn.edge t)) l.witnesses (g.W.Write.contents l.fn.out) (g.W.Write.contents l.out) l.tested-index)
