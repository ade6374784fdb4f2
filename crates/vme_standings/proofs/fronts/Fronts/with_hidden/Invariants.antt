use Rattle.std.proofs.Common.{◌≡◌, ℕ, ◌<◌, ◌≤◌}
use Rattle.std.specs.Prelude.{◌&&◌, ◌||◌}
use Rattle.vme_bus.specs.Sets.{has}
use Rattle.vme_standings.specs.Fronts.{input_place}
use Rattle.vme_standings.proofs.Walks.{Walked}
use Rattle.vme_standings.proofs.fronts.Fronts.with_hidden.Given as goal

abbrev pub invariant-loop-slot : goal.invariant-loop-slot
invariant-loop-slot l = record {
  head : has l.ends 0 ≡ (has l.self.ends 0 || (l.self.waiting && has l.fn.unseen 0));
  below : Walked (has l.self.ends) (has l.movers) (input_place l.plan) (has l.ends) l.slot;
  above : (s : ℕ) → 0 < s → l.slot ≤ s → has l.ends s ≡ has l.self.ends s;
}
