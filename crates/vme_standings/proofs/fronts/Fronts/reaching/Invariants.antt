use Rattle.std.proofs.Common.{◌≡◌, ◌<◌, ℕ, true}
use Rattle.vme_bus.specs.Sets.{has}
use Rattle.vme_standings.specs.Fronts.{input_place}
use Rattle.vme_standings.proofs.fronts.Fronts.reaching.Given as goal

abbrev pub invariant-loop-slot : goal.invariant-loop-slot
invariant-loop-slot l = record {
  all : (s : ℕ) → s < l.slot → 0 < s → has l.boards s ≡ true → has l.ends (input_place l.plan s) ≡ true;
  only : (t : ℕ) → has l.ends t ≡ true
      → (s : ℕ) × (0 < s) × (s < 22) × (has l.boards s ≡ true) × (t ≡ input_place l.plan s);
}
