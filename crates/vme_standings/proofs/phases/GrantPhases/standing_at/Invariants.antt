use Rattle.std.proofs.Common.{◌≡◌, ℕ}
use Rattle.std.specs.Prelude.{◌&&◌, nat_lt}
use Rattle.vme_model.specs.Accepted.{IsAccepted}
use Rattle.vme_bus.specs.Sets.{has}
use Rattle.vme_standings.specs.declared.phases.GrantPhase.TheVariants.{Granting}
use Rattle.vme_standings.specs.GrantChains.{is_of_level, place_before}
use Rattle.vme_standings.specs.Phases.{has_phase}
use Rattle.vme_standings.proofs.phases.GrantPhases.standing_at.Given as goal

abbrev pub invariant-loop-slot : goal.invariant-loop-slot
invariant-loop-slot l = record {
  accepted : IsAccepted l.plan;
  held : (s : ℕ) → has l.boards s ≡ (nat_lt s l.slot && (is_of_level l.plan l.level s && has_phase l.self (Granting l.level (place_before l.plan l.level s))));
}
