use Rattle.std.proofs.Common.{◌≡◌, ℕ, ◌<◌, ◌≤◌, false}
use Rattle.std.specs.Prelude.{◌&&◌, not}
use Rattle.vme_bus.specs.Sets.{has}
use Rattle.vme_standings.proofs.sets.except.Given as goal

abbrev pub invariant-loop-slot : goal.invariant-loop-slot
invariant-loop-slot l = record {
  below : (s : ℕ) → s < l.slot → has l.slots s ≡ (has l.a s && not (has l.b s));
  above : (s : ℕ) → l.slot ≤ s → has l.slots s ≡ false;
}
