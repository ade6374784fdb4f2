use Rattle.std.specs.Prelude.{◌≡◌}
use Rattle.vme_run.proofs.OnceMore.{front}
use Rattle.vme_run.proofs.runs.replay.Given as goal

abbrev pub invariant-loop-at : goal.invariant-loop-at
invariant-loop-at l = l.second ≡ front l.closed l.at
