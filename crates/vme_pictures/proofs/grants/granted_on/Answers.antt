use Rattle.std.proofs.Common.{◌≡◌, ◌∙◌, ◌<◌, List, ℕ, get_or, length, subst, sym, ap}
use Rattle.vme_model.specs.declared.sets.ChainId.{ChainId}
use Rattle.vme_model.specs.Plan.{Plan, active, grant_chain}
use Rattle.vme_model.specs.Stands.{is_granted_at}
use Rattle.vme_pictures.proofs.Ranges.{slot_of_chain}
use Rattle.vme_pictures.proofs.Rows.{find_past}
use Rattle.vme_pictures.proofs.grants.granted_on.Goals as goal

pub returns-then-is_granted_at-clause-range : goal.returns-then-is_granted_at-clause-range
returns-then-is_granted_at-clause-range c =
    let b = c.args.bus.now in
    let i = c.loop-slot.slot-index in
    let same : c.active-slot-items.result.now ≡ active b.plan c.of_grant.result = c.active-slot-items.ensures ∙ ap (λ (p : Plan). active p c.of_grant.result) c.plan.ensures in
    subst (λ (xs : List ℕ). get_or xs i 0 < 22) (sym same) (slot_of_chain b.plan c.laws.ensures.accepted c.of_grant.result i 0 (subst (λ (xs : List ℕ). i < length xs) same c.loop-slot-test.true))

pub loop-slot-preserved : goal.loop-slot-preserved
loop-slot-preserved c =
    let b = c.args.bus.now in
    let i = c.loop-slot.slot-index in
    let test = λ (s : ℕ). is_granted_at b.plan b.history (c.args.level, s) in
    let chain = active b.plan (grant_chain c.args.level) in
    let same : c.active-slot-items.result.now ≡ chain = c.active-slot-items.ensures ∙ ap (λ (p : Plan). active p c.of_grant.result) c.plan.ensures ∙ ap (λ (x : ChainId). active b.plan x) c.of_grant.ensures in
    c.loop-slot.invariant
    ∙ find_past test chain i 0 (subst (λ (xs : List ℕ). i < length xs) same c.loop-slot-test.true)
    (ap (λ (xs : List ℕ). test (get_or xs i 0)) (sym same) ∙ sym c.is_granted_at.ensures ∙ c.if-is_granted_at.false)
