use Rattle.std.proofs.Common.{◌≡◌, ◌∙◌, ℕ, find, drop, map, sym, refl, ap, arith}
use Rattle.std.specs.Prelude.{option_map}
use Rattle.std.specs.List.{flat_map}
use Rattle.vme_model.specs.Plan.{active, grant_chain}
use Rattle.vme_model.specs.Rules.{bus_numbers}
use Rattle.vme_model.specs.Stands.{is_granted_at}
use Rattle.vme_bus.proofs.Standing.{absent, found_on, found_on_later}
use Rattle.vme_bus.proofs.states.BusState.grant_at.Goals as goal

pub loop-level-init : goal.loop-level-init
loop-level-init c = λ version p h is. refl

pub loop-level-preserved : goal.loop-level-preserved
loop-level-preserved c = λ version p h is.
    c.loop-level.invariant version p h is
    ∙ found_on_later (is_granted_at p h) (λ n. active p (grant_chain n)) c.loop-level.level (omega arith)
    (sym (c.granted_on.ensures version p h is) ∙ absent c.granted_on.result c.in_default.not-Some)

pub returns-in-Some : goal.returns-in-Some
returns-in-Some c = λ version p h is.
    sym (ap (option_map (λ (at : ℕ × ℕ). at.1)) (c.loop-level.invariant version p h is
    ∙ found_on (is_granted_at p h) (λ n. active p (grant_chain n)) c.loop-level.level c.in-Some.slot (omega arith)
    (sym (c.granted_on.ensures version p h is) ∙ c.in-Some.is)))

pub returns : goal.returns
returns c = λ version p h is.
    let all : c.loop-level.level ≡ 4 = omega arith in
    sym (ap (option_map (λ (at : ℕ × ℕ). at.1)) (c.loop-level.invariant version p h is
    ∙ ap (λ (l : ℕ). find (is_granted_at p h) (flat_map (λ n. map (λ s. (n, s)) (active p (grant_chain n))) (drop l bus_numbers))) all))
