use Rattle.std.proofs.Common.{◌≡◌, ◌<◌, ℕ, subst, arith}
use Rattle.std.proofs.lemmas.Bool.Decides.{nat_tests}
use Rattle.vme_standings.specs.Beginnings.{KeepsPhases, ShowsAt}
use Rattle.vme_standings.proofs.SeenPhases.{kept_all, kept_more}
use Rattle.vme_standings.proofs.phases.GrantPhases.showing_chain.Goals as goal

pub loop-place-init : goal.loop-place-init
loop-place-init c = kept_all (ShowsAt c.args.plan.now c.args.level c.args.probed c.args.low) c.args.self.now

pub loop-place-preserved : goal.loop-place-preserved
loop-place-preserved c =
    kept_more (ShowsAt c.args.plan.now c.args.level c.args.probed c.args.low) c.loop-place.place c.args.self.now c.loop-place.shown
    c.showing_segment-shown.result c.loop-place.invariant c.showing_segment-shown.ensures

pub returns : goal.returns
returns c =
    let ended : c.loop-place.place ≡ 22 = grind (arith, nat_tests, c.loop-place.auto.place-end, c.loop-place-test.false) in
    subst (λ k. KeepsPhases (λ q. (s : ℕ) → s < k → ShowsAt c.args.plan.now c.args.level c.args.probed c.args.low s q) c.args.self.now c.loop-place.shown) ended c.loop-place.invariant
