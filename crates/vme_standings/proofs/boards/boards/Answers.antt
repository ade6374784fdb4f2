use Rattle.std.proofs.Common.{◌≡◌, ◌∙◌, ℕ, ap, arith}
use Rattle.std.proofs.lemmas.Bool.Decides.{nat_tests}
use Rattle.std.specs.Prelude.{◌&&◌, is_some, nat_lt}
use Rattle.vme_model.specs.Plan.{board}
use Rattle.vme_bus.specs.Sets.{has}
use Rattle.vme_standings.proofs.Growing.{grow}
use Rattle.vme_standings.proofs.Slots.{board_below}
use Rattle.vme_standings.proofs.boards.boards.Goals as goal

pub returns : goal.returns
returns c s =
    let ended : c.loop-slot.slot ≡ 22 = grind (arith, nat_tests, c.loop-slot.auto.slot-end, c.loop-slot-test.false) in
    c.loop-slot.invariant.held s
    ∙ ap (λ n. nat_lt s n && is_some (board c.args.plan.now s)) ended
    ∙ board_below c.args.plan.now c.loop-slot.invariant.accepted s

pub loop-slot-preserved : goal.loop-slot-preserved
loop-slot-preserved c = record {
  accepted = c.loop-slot.invariant.accepted;
  held = grow (has c.loop-slot.found) (has c.with_if-found.result)
      (λ (s : ℕ). is_some (board c.args.plan.now s)) c.loop-slot.slot c.has_board.result c.with_if-found.ensures c.loop-slot.invariant.held c.has_board.ensures;
}
