use Rattle.std.proofs.Common.{◌≡◌, ◌∙◌, ap, arith}
use Rattle.std.proofs.lemmas.Bool.Decides.{nat_tests}
use Rattle.std.specs.Prelude.{◌&&◌, nat_lt}
use Rattle.vme_bus.specs.Sets.{has}
use Rattle.vme_standings.specs.Grants.{is_taken}
use Rattle.vme_standings.proofs.Growing.{grow}
use Rattle.vme_standings.proofs.Slots.{taker_below}
use Rattle.vme_standings.proofs.driving.takers.Goals as goal

pub returns : goal.returns
returns c s =
    let ended : c.loop-board.board ≡ 22 = grind (arith, nat_tests, c.loop-board.auto.board-end, c.loop-board-test.false) in
    c.loop-board.invariant.held s
    ∙ ap (λ n. nat_lt s n && is_taken c.args.plan.now c.args.requests c.args.phases.now s) ended
    ∙ taker_below c.args.plan.now c.loop-board.invariant.accepted c.args.requests c.args.phases.now s

pub loop-board-preserved : goal.loop-board-preserved
loop-board-preserved c = record {
  accepted = c.loop-board.invariant.accepted;
  held = grow (has c.loop-board.found) (has c.with_if-found.result)
      (is_taken c.args.plan.now c.args.requests c.args.phases.now) c.loop-board.board c.is_taken.result c.with_if-found.ensures c.loop-board.invariant.held c.is_taken.ensures;
}
