use Rattle.std.proofs.Common.{◌≡◌, ◌∙◌, false, arith}
use Rattle.std.proofs.lemmas.Bool.Decides.{nat_tests}
use Rattle.std.specs.Prelude.{◌&&◌, ◌==◌}
use Rattle.vme_bus.specs.Sets.{has}
use Rattle.vme_standings.specs.Grants.{is_taken}
use Rattle.vme_standings.proofs.Growing.{turn}
use Rattle.vme_standings.proofs.Rows.{free_kept, held_step}
use Rattle.vme_standings.proofs.grants.behind_take.Goals as goal

pub loop-board-preserved : goal.loop-board-preserved
loop-board-preserved c = record {
  made = held_step c.loop-board.board _ c.loop-board.behind _ (λ b t. t == 0 && is_taken c.args.plan.now c.args.requests c.args.phases.now b) c.set_held_row.ensures c.loop-board.invariant.made
      (λ t m. c.row_if.ensures t ∙ turn c.is_taken-is_taken.result (has c.just.result t) _ _ c.is_taken-is_taken.ensures (c.just.ensures t));
  free = free_kept c.loop-board.board _ c.loop-board.behind _ (λ q. false) c.set_held_row.ensures c.loop-board.invariant.free;
}

pub returns : goal.returns
returns c =
    let ended : c.loop-board.board ≡ 22 = grind (arith, nat_tests, c.loop-board.auto.board-end, c.loop-board-test.false) in
    record {
      idle = c.loop-board.invariant.free.idle;
      granting = c.loop-board.invariant.free.granting;
      held = λ b t l m. c.loop-board.invariant.made b t (omega (arith, l, ended)) m;
      expired = c.loop-board.invariant.free.expired;
    }
