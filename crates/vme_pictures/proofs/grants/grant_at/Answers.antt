use Rattle.std.proofs.Common.{◌≡◌, ◌∙◌, ℕ, find, drop, map, sym, ap, arith}
use Rattle.std.specs.List.{flat_map}
use Rattle.vme_model.specs.Plan.{active, grant_chain}
use Rattle.vme_model.specs.Rules.{bus_numbers}
use Rattle.vme_model.specs.Stands.{is_granted_at}
use Rattle.vme_model.proofs.Standing.{none_travels}
use Rattle.vme_reasons.proofs.Found.{absent, found_on, found_on_later}
use Rattle.vme_pictures.proofs.Letters.{only_grant}
use Rattle.vme_pictures.proofs.grants.grant_at.Goals as goal

pub returns-in-Some-clause-at : goal.returns-in-Some-clause-at
returns-in-Some-clause-at c = let b = c.args.bus.now in
    sym (c.loop-level.invariant ∙ found_on (is_granted_at b.plan b.history) (λ n. active b.plan (grant_chain n)) c.loop-level.level c.in-Some.slot (omega arith)
    (sym c.granted_on.ensures.slot ∙ c.in-Some.is))

pub returns-in-Some-clause-only : goal.returns-in-Some-clause-only
returns-in-Some-clause-only c = let b = c.args.bus.now in
    only_grant b.plan b.history c.safety.ensures.safe c.loop-level.level c.in-Some.slot (returns-in-Some-clause-at c)

pub returns-clause-only : goal.returns-clause-only
returns-clause-only c = let b = c.args.bus.now in
    let all : c.loop-level.level ≡ 4 = omega arith in
    none_travels b.plan b.history
    (c.loop-level.invariant ∙ ap (λ (l : ℕ). find (is_granted_at b.plan b.history) (flat_map (λ n. map (λ s. (n, s)) (active b.plan (grant_chain n))) (drop l bus_numbers))) all)

pub loop-level-preserved : goal.loop-level-preserved
loop-level-preserved c = let b = c.args.bus.now in
    c.loop-level.invariant ∙ found_on_later (is_granted_at b.plan b.history) (λ n. active b.plan (grant_chain n)) c.loop-level.level (omega arith)
    (sym c.granted_on.ensures.slot ∙ absent c.granted_on.result c.in_default.not-Some)
