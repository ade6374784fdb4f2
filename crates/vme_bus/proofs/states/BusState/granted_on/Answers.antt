use Rattle.std.proofs.Common.{◌≡◌, ◌∙◌, ◌<◌, sym, refl, subst, find, None, ℕ, arith}
use Rattle.std.specs.Prelude.{◌&&◌}
use Rattle.vme_model.specs.Plan.{up_to, is_active, grant_chain}
use Rattle.vme_model.specs.Stands.{is_granted_at}
use Rattle.vme_model.proofs.Ranges.{in_range}
use Rattle.vme_bus.proofs.Standing.{least_up_to, none_up_to, find_filtered}
use Rattle.vme_bus.proofs.states.BusState.granted_on.Goals as goal

pub loop-below-init : goal.loop-below-init
loop-below-init c = λ version p h is. refl

pub loop-below-preserved : goal.loop-below-preserved
loop-below-preserved c = λ version p h is.
    none_up_to (λ s. is_active p.rows (grant_chain c.args.level) s && is_granted_at p h (c.args.level, s)) c.loop-below.below (c.loop-below.invariant version p h is)
    (sym (c.is_granted.ensures version p h is) ∙ c.if-is_granted.false)

pub returns-then-is_granted : goal.returns-then-is_granted
returns-then-is_granted c = λ version p h is.
    let level = c.args.level in
    let slots = is.layout.slots in
    let end = c.min-below-end.ensures in
    let inside : c.loop-below.below < p.slots = omega (arith, slots, end) in
    sym (find_filtered (is_active p.rows (grant_chain level)) (λ s. is_granted_at p h (level, s)) (up_to p.slots)
    ∙ least_up_to (λ s. is_active p.rows (grant_chain level) s && is_granted_at p h (level, s)) p.slots c.loop-below.below inside (c.loop-below.invariant version p h is)
    (sym (c.is_granted.ensures version p h is) ∙ c.if-is_granted.true))

pub returns : goal.returns
returns c = λ version p h is.
    let level = c.args.level in
    let slots = is.layout.slots in
    let most = (in_range p is.accepted).most in
    let end = c.min-below-end.ensures in
    let ended : c.loop-below.below ≡ p.slots = omega (arith, slots, most, end) in
    sym (find_filtered (is_active p.rows (grant_chain level)) (λ s. is_granted_at p h (level, s)) (up_to p.slots)
    ∙ subst (λ (n : ℕ). find (λ s. is_active p.rows (grant_chain level) s && is_granted_at p h (level, s)) (up_to n) ≡ None) ended (c.loop-below.invariant version p h is))
