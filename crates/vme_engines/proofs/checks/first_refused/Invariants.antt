use Rattle.std.proofs.Common.{◌≡◌, ◌+◌, drop}
use Rattle.vme_engines.proofs.CheckPieces.{HasPassed}
use Rattle.vme_engines.proofs.checks.first_refused.Given as goal

abbrev pub invariant-loop-edge : goal.invariant-loop-edge
invariant-loop-edge l = record {
  number : l.n ≡ l.judged + l.edge-index;
  run : HasPassed l.fn.bus (l.judged + 1) l.edges l.bus (l.n + 1) (drop l.edge-index l.edges);
}
