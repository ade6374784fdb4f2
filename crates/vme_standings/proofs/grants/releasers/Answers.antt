use Rattle.std.proofs.Common.{◌≡◌, ◌∙◌, ap, arith}
use Rattle.std.proofs.lemmas.Bool.Decides.{nat_tests}
use Rattle.std.specs.Prelude.{◌&&◌, nat_lt}
use Rattle.vme_standings.specs.Grants.{can_release}
use Rattle.vme_standings.proofs.Slots.{releaser_below}
use Rattle.vme_bus.specs.Sets.{has}
use Rattle.vme_standings.proofs.Growing.{grow}
use Rattle.vme_standings.proofs.grants.releasers.Goals as goal

pub returns : goal.returns
returns c s =
    let ended : c.loop-board.board ≡ 22 = grind (arith, nat_tests, c.loop-board.auto.board-end, c.loop-board-test.false) in
    c.loop-board.invariant.held s
    ∙ ap (λ n. nat_lt s n && can_release c.args.plan.now c.args.requests c.args.phases.now s) ended
    ∙ releaser_below c.args.plan.now c.loop-board.invariant.accepted c.args.requests c.args.phases.now s

pub loop-board-preserved : goal.loop-board-preserved
loop-board-preserved c = record {
  accepted = c.loop-board.invariant.accepted;
  held = grow (has c.loop-board.found) (has c.with_if-found.result)
      (can_release c.args.plan.now c.args.requests c.args.phases.now) c.loop-board.board c.can_release.result c.with_if-found.ensures c.loop-board.invariant.held c.can_release.ensures;
}
