use Rattle.std.proofs.Common.{◌≡◌, ℕ, ◌<◌, ◌≤◌, false}
use Rattle.std.specs.Prelude.{◌&&◌}
use Rattle.vme_bus.specs.Sets.{has}
use Rattle.vme_standings.specs.Fronts.{input_place}
use Rattle.vme_standings.proofs.fronts.Fronts.reached.Given as goal

abbrev pub invariant-loop-slot : goal.invariant-loop-slot
invariant-loop-slot l = record {
  below : (s : ℕ) → s < l.slot → has l.slots s ≡ (has l.boards s && has l.self.ends (input_place l.plan s));
  above : (s : ℕ) → l.slot ≤ s → has l.slots s ≡ false;
}
