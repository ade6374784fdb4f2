use Rattle.std.proofs.Common.{◌≡◌, ◌<◌, ℕ, true, false}
use Rattle.std.specs.Prelude.{◌==◌}
use Rattle.vme_bus.specs.Sets.{has}
use Rattle.vme_standings.specs.Phases.{HasFree, has_phase, held_row}
use Rattle.vme_standings.proofs.grants.behind_request.Given as goal

abbrev pub invariant-loop-slot : goal.invariant-loop-slot
invariant-loop-slot l = record {
  kept : (b t : ℕ) → has (held_row l.behind b) t ≡ true → has (held_row l.phases b) t ≡ true;
  another : (b t : ℕ) → b < l.slot → has (held_row l.behind b) t ≡ true → has l.askers b ≡ true
      → (s : ℕ) × (has l.askers s ≡ true) × ((s == b) ≡ false);
  others : (b t : ℕ) → has (held_row l.phases b) t ≡ true → has l.askers b ≡ false → has (held_row l.behind b) t ≡ true;
  several : (b t s : ℕ) → has (held_row l.phases b) t ≡ true → s < 32 → has l.askers s ≡ true → (s == b) ≡ false
      → has (held_row l.behind b) t ≡ true;
  free : HasFree l.behind (λ q. has_phase l.phases q);
}
