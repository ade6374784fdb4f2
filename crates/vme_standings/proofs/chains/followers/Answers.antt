use Rattle.std.proofs.Common.{◌≡◌, ◌∙◌, ap, arith}
use Rattle.std.proofs.lemmas.Bool.Decides.{nat_tests}
use Rattle.std.specs.Prelude.{◌&&◌, nat_lt}
use Rattle.vme_standings.specs.GrantChains.{is_follower}
use Rattle.vme_standings.proofs.Slots.{follower_below}
use Rattle.vme_bus.specs.Sets.{has}
use Rattle.vme_standings.proofs.Growing.{grow}
use Rattle.vme_standings.proofs.chains.followers.Goals as goal

pub returns : goal.returns
returns c s =
    let p = c.args.plan.now in
    let ended : c.loop-slot.slot ≡ 22 = grind (arith, nat_tests, c.loop-slot.auto.slot-end, c.loop-slot-test.false) in
    c.loop-slot.invariant.held s
    ∙ ap (λ n. nat_lt s n && is_follower p c.args.level c.args.place s) ended
    ∙ follower_below p c.loop-slot.invariant.accepted c.args.level c.args.place s

pub loop-slot-preserved : goal.loop-slot-preserved
loop-slot-preserved c = record {
  accepted = c.loop-slot.invariant.accepted;
  held = grow (has c.loop-slot.found) (has c.with_if-found.result)
      (is_follower c.args.plan.now c.args.level c.args.place) c.loop-slot.slot c.is_follower.result c.with_if-found.ensures c.loop-slot.invariant.held c.is_follower.ensures;
}
