use Rattle.std.proofs.Common.{◌≡◌, ◌<◌, ◌≤◌, ℕ, false}
use Rattle.vme_bus.specs.Sets.{has}
use Rattle.vme_standings.specs.Driving.{MayPass}
use Rattle.vme_standings.proofs.hidden.passing.Given as goal

abbrev pub invariant-loop-slot : goal.invariant-loop-slot
invariant-loop-slot l = record {
  able : (s : ℕ) → 0 < s → s < l.slot → MayPass l.boards l.low l.requests s (has l.found s);
  above : (s : ℕ) → l.slot ≤ s → has l.found s ≡ false;
}
