use Rattle.std.proofs.Common.{◌≡◌, ◌∙◌, ap, arith}
use Rattle.std.proofs.lemmas.Bool.Decides.{nat_tests}
use Rattle.std.specs.Prelude.{◌&&◌, nat_lt}
use Rattle.vme_standings.specs.GrantChains.{is_of_level}
use Rattle.vme_standings.proofs.Slots.{level_below}
use Rattle.vme_bus.specs.Sets.{has}
use Rattle.vme_standings.proofs.Growing.{grow}
use Rattle.vme_standings.proofs.grants.boards_of_level.Goals as goal

pub returns : goal.returns
returns c s =
    let ended : c.loop-slot.slot ≡ 22 = grind (arith, nat_tests, c.loop-slot.auto.slot-end, c.loop-slot-test.false) in
    c.loop-slot.invariant.held s
    ∙ ap (λ n. nat_lt s n && is_of_level c.args.plan.now c.args.level s) ended
    ∙ level_below c.args.plan.now c.loop-slot.invariant.accepted c.args.level s

pub loop-slot-preserved : goal.loop-slot-preserved
loop-slot-preserved c = record {
  accepted = c.loop-slot.invariant.accepted;
  held = grow (has c.loop-slot.boards) (has c.with_if-boards.result)
      (is_of_level c.args.plan.now c.args.level) c.loop-slot.slot c.is_of_level.result c.with_if-boards.ensures c.loop-slot.invariant.held c.is_of_level.ensures;
}
