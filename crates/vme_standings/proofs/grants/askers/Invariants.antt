use Rattle.std.proofs.Common.{◌≡◌, ◌<◌, ℕ, true, false}
use Rattle.std.specs.Prelude.{◌==◌}
use Rattle.vme_bus.specs.Sets.{has}
use Rattle.vme_standings.specs.declared.phases.GrantPhase.{GrantPhase}
use Rattle.vme_standings.specs.GrantChains.{is_of_level}
use Rattle.vme_standings.specs.Phases.{has_phase, is_held_by, is_in_table}
use Rattle.vme_standings.proofs.grants.askers.Given as goal

abbrev pub invariant-loop-slot : goal.invariant-loop-slot
invariant-loop-slot l = record {
  some : (s : ℕ) → has l.found s ≡ true → (is_of_level l.plan l.level s ≡ true)
      × ((q : GrantPhase) × (has_phase l.phases q ≡ true) × (is_held_by (λ b. b == s) q ≡ false));
  all : (s : ℕ) (q : GrantPhase) → s < l.slot → is_in_table q ≡ true → is_of_level l.plan l.level s ≡ true
      → has_phase l.phases q ≡ true → is_held_by (λ b. b == s) q ≡ false → has l.found s ≡ true;
}
