use Rattle.std.proofs.Common.{◌≡◌, ◌∙◌, ◌+◌, ℕ, ap, arith}
use Rattle.std.proofs.lemmas.Bool.Decides.{nat_tests}
use Rattle.std.specs.Prelude.{◌&&◌, nat_le, nat_lt}
use Rattle.vme_standings.specs.Unseen.{rises_unseen}
use Rattle.vme_bus.specs.Sets.{has}
use Rattle.vme_standings.proofs.Growing.{grow}
use Rattle.vme_standings.proofs.unseen.rises.Goals as goal

up_to : (s last : ℕ) → nat_lt s (last + 1) ≡ nat_le s last
up_to s last = grind (arith, nat_tests)

pub returns : goal.returns
returns c s =
    let p = c.args.plan.now in
    let ended : c.loop-slot.slot ≡ c.args.last + 1 = omega (arith, c.loop-slot.auto.slot-end, c.loop-slot-test.false) in
    c.loop-slot.invariant s
    ∙ ap (λ k. nat_lt s k && rises_unseen p c.args.probed.now c.args.level s) ended
    ∙ ap (λ b. b && rises_unseen p c.args.probed.now c.args.level s) (up_to s c.args.last)

pub loop-slot-preserved : goal.loop-slot-preserved
loop-slot-preserved c =
    grow (has c.loop-slot.found) (has c.with_if-found.result)
    (rises_unseen c.args.plan.now c.args.probed.now c.args.level) c.loop-slot.slot c.rises_unseen.result c.with_if-found.ensures c.loop-slot.invariant c.rises_unseen.ensures
