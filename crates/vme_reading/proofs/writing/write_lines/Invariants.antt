use Rattle.std.proofs.Common.{drop}
use Rattle.vme_model.specs.Text.{edge_lines}
use Rattle.vme_trace.proofs.WrittenLines.{Wrote}
use Rattle.vme_reading.proofs.writing.write_lines.Given as goal

abbrev pub invariant-loop-code : goal.invariant-loop-code
invariant-loop-code g l =
    Wrote (g.W.Write.contents l.fn.out) (g.W.Write.contents l.out) (edge_lines l.edges)
    (edge_lines (drop l.code-index l.edges))
