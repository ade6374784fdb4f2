use Rattle.std.proofs.Common.{◌≡◌, ℕ, ◌<◌, ◌≤◌, false}
use Rattle.std.specs.Prelude.{◌&&◌}
use Rattle.vme_bus.specs.Sets.{has}
use Rattle.vme_standings.proofs.sets.both.Given as goal

abbrev pub invariant-loop-slot : goal.invariant-loop-slot
invariant-loop-slot l = record {
  below : (s : ℕ) → s < l.slot → has l.slots s ≡ (has l.a s && has l.b s);
  above : (s : ℕ) → l.slot ≤ s → has l.slots s ≡ false;
}
