use Rattle.std.proofs.Common.{◌≡◌, ◌+◌, length}
use Rattle.vme_model.specs.Locality.{AreWellFormed}
use Rattle.vme_check.proofs.CheckPieces.{HasPassed}
use Rattle.vme_check.proofs.checks.first_refused.Given as goal

abbrev pub invariant-loop-rest : goal.invariant-loop-rest
invariant-loop-rest l = record {
  number : l.n + length l.rest ≡ l.judged + length l.edges;
  formed : AreWellFormed l.rest;
  run : HasPassed l.fn.bus (l.judged + 1) l.edges l.bus (l.n + 1) l.rest;
}

abbrev pub decreases-loop-rest : goal.decreases-loop-rest
decreases-loop-rest l = length l.rest
