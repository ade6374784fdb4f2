use Rattle.std.proofs.Common.{◌≡◌, ◌<◌, ℕ, true}
use Rattle.vme_standings.specs.declared.phases.GrantPhase.TheVariants.{Held}
use Rattle.vme_standings.specs.Grants.{are_alike, is_clear_due}
use Rattle.vme_standings.specs.Phases.{has_phase}
use Rattle.vme_standings.proofs.driving.can_clear.Given as goal

abbrev pub invariant-loop-board : goal.invariant-loop-board
invariant-loop-board l =
    (b : ℕ) → b < l.board → (t : ℕ) → t < 22 → has_phase l.phases (Held b t) ≡ true → are_alike (is_clear_due l.plan l.requests (Held b t)) l.fall ≡ true → ⊥
