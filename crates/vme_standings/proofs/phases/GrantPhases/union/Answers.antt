use Rattle.std.proofs.Common.{◌≡◌, ◌∙◌, ap, arith}
use Rattle.std.specs.Prelude.{◌||◌}
use Rattle.std.proofs.lemmas.Bool.Decides.{nat_tests}
use Rattle.vme_bus.specs.Sets.{has}
use Rattle.vme_standings.specs.declared.phases.GrantPhase.TheVariants.{Held}
use Rattle.vme_standings.specs.Phases.{has_phase}
use Rattle.vme_standings.proofs.Rows.{free_kept, held_step}
use Rattle.vme_standings.proofs.phases.GrantPhases.union.Goals as goal

pub loop-board-preserved : goal.loop-board-preserved
loop-board-preserved c =
    let k = c.loop-board.board in
    record {
      made = held_step k c.or-firsts.result c.loop-board.union c.set_held_row.new.self (λ b t. has_phase c.args.self.now (Held b t)
          || has_phase c.args.other.now (Held b t)) c.set_held_row.ensures c.loop-board.invariant.made
          (λ t m. c.or-firsts.ensures t ∙ ap (λ r. has r t || has c.held_row-in-loop-board.result t) c.held_row.ensures
          ∙ ap (λ r. has_phase c.args.self.now (Held k t) || has r t) c.held_row-in-loop-board.ensures);
      free = free_kept k c.or-firsts.result c.loop-board.union c.set_held_row.new.self (λ q. has_phase c.args.self.now q
          || has_phase c.args.other.now q) c.set_held_row.ensures c.loop-board.invariant.free;
    }

pub returns : goal.returns
returns c =
    let ended : c.loop-board.board ≡ 22 = grind (arith, nat_tests, c.loop-board.auto.board-end, c.loop-board-test.false) in
    record {
      idle = c.loop-board.invariant.free.idle;
      granting = c.loop-board.invariant.free.granting;
      held = λ b t l m. c.loop-board.invariant.made b t (omega (arith, l, ended)) m;
      expired = c.loop-board.invariant.free.expired;
    }
