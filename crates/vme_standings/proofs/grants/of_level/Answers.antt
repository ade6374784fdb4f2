use Rattle.std.proofs.Common.{◌≡◌, ◌∙◌, ap, arith}
use Rattle.std.proofs.lemmas.Bool.Decides.{nat_tests}
use Rattle.std.specs.Prelude.{◌&&◌, nat_lt}
use Rattle.vme_bus.specs.Sets.{has}
use Rattle.vme_standings.specs.GrantChains.{is_of_level}
use Rattle.vme_standings.proofs.Growing.{grow, same_both}
use Rattle.vme_standings.proofs.Slots.{level_below_and}
use Rattle.vme_standings.proofs.grants.of_level.Goals as goal

pub loop-slot-preserved : goal.loop-slot-preserved
loop-slot-preserved c = record {
  accepted = c.loop-slot.invariant.accepted;
  held = grow (has c.loop-slot.found) (has c.with_if-found.result) (λ s. is_of_level c.args.plan.now c.args.level s
      && has c.args.slots s) c.loop-slot.slot c.both-is_both.result c.with_if-found.ensures c.loop-slot.invariant.held
      (c.both-is_both.ensures ∙ same_both _ _ _ _ c.is_of_level-is_of_level.ensures c.has-is_held.ensures);
}

pub returns : goal.returns
returns c s =
    let p = c.args.plan.now in
    let ended : c.loop-slot.slot ≡ 22 = grind (arith, nat_tests, c.loop-slot.auto.slot-end, c.loop-slot-test.false) in
    c.loop-slot.invariant.held s
    ∙ ap (λ n. nat_lt s n && (is_of_level p c.args.level s && has c.args.slots s)) ended
    ∙ level_below_and p c.loop-slot.invariant.accepted c.args.level s (has c.args.slots s)
