use Rattle.std.proofs.Common.{drop, reverse}
use Rattle.vme_model.specs.Text.{edge_lines}
use Rattle.vme_trace.proofs.WrittenLines.{Wrote}
use Rattle.vme_run.proofs.histories.write_lines.Given as goal

abbrev pub invariant-loop-place : goal.invariant-loop-place
invariant-loop-place g l =
    Wrote (g.W.Write.contents l.fn.out) (g.W.Write.contents l.out) (edge_lines (reverse l.backplane.history)) (edge_lines (drop l.place (reverse l.backplane.history)))
