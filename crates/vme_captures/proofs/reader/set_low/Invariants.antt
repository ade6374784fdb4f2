use Rattle.std.proofs.Common.{◌≡◌, ◌++◌, drop, map, take}
use Rattle.vme_captures.specs.Taking.{with_low}
use Rattle.vme_captures.proofs.reader.set_low.Given as goal

abbrev pub invariant-loop-at : goal.invariant-loop-at
invariant-loop-at l =
    l.probes ≡ map (with_low l.pin l.low) (take l.at l.fn.probes) ++ drop l.at l.fn.probes
