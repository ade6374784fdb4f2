use Rattle.std.proofs.Common.{◌≡◌, ◌∙◌, false, ap, arith}
use Rattle.std.proofs.lemmas.Bool.Decides.{nat_tests}
use Rattle.std.specs.Prelude.{◌&&◌}
use Rattle.vme_bus.specs.Sets.{has}
use Rattle.vme_standings.specs.Grants.{is_let_go}
use Rattle.vme_standings.proofs.Rows.{free_kept, held_step}
use Rattle.vme_standings.proofs.grants.held_behind_rise.Goals as goal

pub loop-board-preserved : goal.loop-board-preserved
loop-board-preserved c = record {
  made = held_step c.loop-board.board _ c.loop-board.behind _ (λ b t. is_let_go c.args.plan.now c.args.level c.args.place c.args.phases.now b
      && has c.args.next t) c.set_held_row.ensures c.loop-board.invariant.made (λ t m. c.row_if.ensures t ∙ ap (λ x. x && has c.args.next t) c.is_let_go-is_let_go.ensures);
  free = free_kept c.loop-board.board _ c.loop-board.behind _ (λ q. false) c.set_held_row.ensures c.loop-board.invariant.free;
}

pub returns : goal.returns
returns c =
    let ended : c.loop-board.board ≡ 22 = grind (arith, nat_tests, c.loop-board.auto.board-end, c.loop-board-test.false) in
    record {
      idle = c.loop-board.invariant.free.idle;
      granting = c.loop-board.invariant.free.granting;
      held = λ b t l m. c.loop-board.invariant.made b t (omega (arith, l, ended)) m;
      expired = c.loop-board.invariant.free.expired;
    }
