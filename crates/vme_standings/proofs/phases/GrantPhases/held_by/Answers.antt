use Rattle.std.proofs.Common.{◌≡◌, ◌∙◌, false, ap, arith}
use Rattle.std.proofs.lemmas.Bool.Decides.{nat_tests}
use Rattle.std.specs.Prelude.{◌&&◌}
use Rattle.vme_bus.specs.Sets.{has}
use Rattle.vme_standings.specs.Phases.{held_row}
use Rattle.vme_standings.proofs.Rows.{free_kept, held_step}
use Rattle.vme_standings.proofs.phases.GrantPhases.held_by.Goals as goal

pub loop-board-preserved : goal.loop-board-preserved
loop-board-preserved c = record {
  made = held_step c.loop-board.board _ c.loop-board.kept _ (λ b t. has c.args.boards b && has (held_row c.args.self.now b) t) c.set_held_row.ensures c.loop-board.invariant.made
      (λ t m. c.row_if.ensures t ∙ ap (λ x. x && has c.held_row.result t) c.has.ensures ∙ ap (λ r. has c.args.boards c.loop-board.board && has r t) c.held_row.ensures);
  free = free_kept c.loop-board.board _ c.loop-board.kept _ (λ q. false) c.set_held_row.ensures c.loop-board.invariant.free;
}

pub returns : goal.returns
returns c =
    let ended : c.loop-board.board ≡ 22 = grind (arith, nat_tests, c.loop-board.auto.board-end, c.loop-board-test.false) in
    record {
      idle = c.loop-board.invariant.free.idle;
      granting = c.loop-board.invariant.free.granting;
      held = λ b t l m. c.loop-board.invariant.made b t (omega (arith, l, ended)) m;
      expired = c.loop-board.invariant.free.expired;
    }
