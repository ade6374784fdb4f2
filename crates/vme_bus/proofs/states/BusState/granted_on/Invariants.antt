use Rattle.std.proofs.Common.{◌≡◌, find, None}
use Rattle.std.specs.Prelude.{◌&&◌}
use Rattle.vme_model.specs.Plan.{up_to, is_active, grant_chain}
use Rattle.vme_model.specs.Stands.{is_granted_at}
use Rattle.vme_bus.specs.States.{OfHistory}
use Rattle.vme_bus.proofs.states.BusState.granted_on.Given as goal

abbrev pub invariant-loop-below : goal.invariant-loop-below
invariant-loop-below l = OfHistory l.self (λ _ p h.
    find (λ s. is_active p.rows (grant_chain l.level) s && is_granted_at p h (l.level, s)) (up_to l.below) ≡ None)
