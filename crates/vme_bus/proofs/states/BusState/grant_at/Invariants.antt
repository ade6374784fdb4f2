use Rattle.std.proofs.Common.{◌≡◌, find, drop, map}
use Rattle.std.specs.List.{flat_map}
use Rattle.vme_model.specs.Plan.{active, grant_chain}
use Rattle.vme_model.specs.Rules.{bus_numbers}
use Rattle.vme_model.specs.Stands.{is_granted_at, grant_places}
use Rattle.vme_bus.specs.States.{OfHistory}
use Rattle.vme_bus.proofs.states.BusState.grant_at.Given as goal

abbrev pub invariant-loop-level : goal.invariant-loop-level
invariant-loop-level l = OfHistory l.self (λ _ p h.
    find (is_granted_at p h) (grant_places p)
    ≡ find (is_granted_at p h) (flat_map (λ n. map (λ s. (n, s)) (active p (grant_chain n))) (drop l.level bus_numbers)))
