use Rattle.std.proofs.Common.{◌≡◌, ◌∙◌, ap, arith}
use Rattle.std.proofs.lemmas.Bool.Decides.{nat_tests}
use Rattle.std.specs.Prelude.{◌&&◌, ◌||◌, nat_lt}
use Rattle.vme_bus.specs.Sets.{has}
use Rattle.vme_standings.specs.GrantChains.{place_before}
use Rattle.vme_standings.proofs.Slots.{before_less}
use Rattle.vme_standings.proofs.Walked.{below_end, not_yet, walk_step}
use Rattle.vme_standings.proofs.unseen.walk.Goals as goal

pub loop-slot-init : goal.loop-slot-init
loop-slot-init c = record {
  accepted = c.accepted.ensures;
  walked = not_yet (has c.args.from) (has c.args.steps) (place_before c.args.plan.now c.args.level);
}

pub loop-slot-preserved : goal.loop-slot-preserved
loop-slot-preserved c = record {
  accepted = c.loop-slot.invariant.accepted;
  walked = walk_step (has c.args.from) (has c.args.steps) (place_before c.args.plan.now c.args.level)
      (λ t is. before_less c.args.plan.now c.loop-slot.invariant.accepted c.args.level t (c.requires t is))
      (has c.loop-slot.reached) (has c.with_if-reached.result) c.loop-slot.slot c.is_step.result c.with_if-reached.ensures c.loop-slot.invariant.walked c.is_step.ensures;
}

pub returns : goal.returns
returns c t =
    let ended : c.loop-slot.slot ≡ 22 = grind (arith, nat_tests, c.loop-slot.auto.slot-end, c.loop-slot-test.false) in
    c.loop-slot.invariant.walked t
    ∙ ap (λ k. has c.args.from t || ((nat_lt t k && has c.args.steps t) && has c.loop-slot.reached (place_before c.args.plan.now c.args.level t))) ended
    ∙ ap (λ b. has c.args.from t || (b && has c.loop-slot.reached (place_before c.args.plan.now c.args.level t)))
    (below_end c.args.plan.now c.loop-slot.invariant.accepted c.args.level (has c.args.steps) c.requires t)
