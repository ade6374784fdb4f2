use Rattle.std.proofs.Common.{◌≡◌, ◌+◌, drop}
use Rattle.vme_trace.proofs.WrittenLines.{Wrote}
use Rattle.vme_order.specs.Lines.{all_judged, seen_lines}
use Rattle.vme_order.specs.Ordering.{seen_at}
use Rattle.vme_order.proofs.lines.write_edges.Given as goal

abbrev pub invariant-loop-place : goal.invariant-loop-place
invariant-loop-place g l = record {
  count : l.n ≡ l.written + l.place-index;
  state : all_judged l.form l.bus (seen_at l.seen (drop l.place-index l.places))
      ≡ all_judged l.form l.fn.bus (seen_at l.seen l.places);
  lines : Wrote (g.W.Write.contents l.fn.out) (g.W.Write.contents l.out)
      (seen_lines l.form l.fn.bus (l.written + 1) (seen_at l.seen l.places))
      (seen_lines l.form l.bus (l.n + 1) (seen_at l.seen (drop l.place-index l.places)));
}
