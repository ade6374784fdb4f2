use Rattle.std.proofs.Common.{◌≡◌, find, drop}
use Rattle.vme_model.specs.Plan.{active, grant_chain}
use Rattle.vme_model.specs.Stands.{is_granted_at}
use Rattle.vme_pictures.proofs.grants.granted_on.Given as goal

abbrev pub invariant-loop-slot : goal.invariant-loop-slot
invariant-loop-slot l =
    let chain = active l.bus.plan (grant_chain l.level) in
    let test = is_granted_at l.bus.plan l.bus.history in
    find (λ s. test (l.level, s)) chain ≡ find (λ s. test (l.level, s)) (drop l.slot-index chain)
