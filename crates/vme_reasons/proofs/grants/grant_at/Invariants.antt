use Rattle.std.proofs.Common.{◌≡◌, find, drop, map}
use Rattle.std.specs.List.{flat_map}
use Rattle.vme_model.specs.Plan.{active, grant_chain}
use Rattle.vme_model.specs.Rules.{bus_numbers}
use Rattle.vme_model.specs.Stands.{is_granted_at, grant_places}
use Rattle.vme_reasons.specs.Traced.{OfTrace}
use Rattle.vme_reasons.proofs.grants.grant_at.Given as goal

abbrev pub invariant-loop-level : goal.invariant-loop-level
invariant-loop-level l = OfTrace l.bus l.marks (λ _.
    find (is_granted_at l.bus.plan l.bus.history) (grant_places l.bus.plan)
    ≡ find (is_granted_at l.bus.plan l.bus.history)
    (flat_map (λ n. map (λ s. (n, s)) (active l.bus.plan (grant_chain n))) (drop l.level bus_numbers)))
