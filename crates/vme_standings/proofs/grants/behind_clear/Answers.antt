use Rattle.std.proofs.Common.{◌≡◌, ◌∙◌, ap, arith}
use Rattle.std.proofs.lemmas.Bool.Decides.{nat_tests}
use Rattle.std.specs.Prelude.{◌&&◌, not, nat_lt}
use Rattle.vme_bus.specs.Sets.{has}
use Rattle.vme_model.specs.Rules.{is_pri}
use Rattle.vme_standings.specs.Grants.{are_alike, is_outranked}
use Rattle.vme_standings.specs.Phases.{has_phase, held_row}
use Rattle.vme_standings.proofs.Rows.{free_kept, held_step}
use Rattle.vme_standings.proofs.grants.behind_clear.Goals as goal

pub loop-board-preserved : goal.loop-board-preserved
loop-board-preserved c = record {
  made = held_step c.loop-board.board _ c.loop-board.behind _ (λ b t. has (held_row c.args.phases.now b) t
      && are_alike ((is_pri c.args.plan.now.arbiter && is_outranked c.args.plan.now c.args.requests b) && nat_lt 0 t) c.args.fall) c.set_held_row.ensures c.loop-board.invariant.made
      (λ t m. c.row_behind_clear-row.ensures t m ∙ ap (λ r. has r t && are_alike (c.can_be_due-can_be_due.result && nat_lt 0 t) c.args.fall) c.held_row.ensures
      ∙ ap (λ x. has (held_row c.args.phases.now c.loop-board.board) t && are_alike (x && nat_lt 0 t) c.args.fall) c.can_be_due-can_be_due.ensures);
  free = free_kept c.loop-board.board _ c.loop-board.behind _ (λ q. has_phase c.args.phases.now q && not c.args.fall) c.set_held_row.ensures c.loop-board.invariant.free;
}

pub returns : goal.returns
returns c =
    let ended : c.loop-board.board ≡ 22 = grind (arith, nat_tests, c.loop-board.auto.board-end, c.loop-board-test.false) in
    record {
      idle = c.loop-board.invariant.free.idle;
      granting = c.loop-board.invariant.free.granting;
      held = λ b t l m. c.loop-board.invariant.made b t (omega (arith, l, ended)) m;
      expired = c.loop-board.invariant.free.expired;
    }
