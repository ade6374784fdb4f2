use Rattle.std.proofs.Common.{◌≡◌, ◌+◌, drop}
use Rattle.vme_engines.proofs.WrittenLines.{HasJudged}
use Rattle.vme_engines.proofs.lines.write_verdicts.Given as goal

abbrev pub invariant-loop-edge : goal.invariant-loop-edge
invariant-loop-edge g l = record {
  number : l.count ≡ l.judged + l.edge-index;
  run : HasJudged (g.W.Write.contents l.fn.out) (g.W.Write.contents l.out) l.text l.fn.bus (l.judged + 1) l.edges l.bus (l.count + 1) (drop l.edge-index l.edges);
}
