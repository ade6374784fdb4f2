use Rattle.std.proofs.Common.{◌≡◌, ◌∙◌, ◌++◌, ap, arith}
use Rattle.std.proofs.lemmas.Bool.Decides.{nat_tests}
use Rattle.vme_bus.specs.Sets.{has}
use Rattle.vme_model.specs.declared.signals.Driver.TheVariants.{Slot}
use Rattle.vme_probe.specs.Stopped.{board_lines, board_obstacle, has_ours, lines_below, obstacle_if, ours_below}
use Rattle.vme_probe.proofs.LinesBelow.{obstacle_more, ours_more}
use Rattle.vme_probe.proofs.answers.push_of_boards.Goals as goal

pub loop-slot-preserved : goal.loop-slot-preserved
loop-slot-preserved c =
    let found = board_obstacle c.args.plan.now c.args.probed.now.version c.args.before.now c.args.change.now c.args.boards in
    let same : c.obstacle_if-found.result ≡ found c.loop-slot.slot =
    c.obstacle_if-found.ensures ∙ ap (λ b. obstacle_if c.args.plan.now c.args.probed.now.version c.args.before.now c.args.change.now (Slot c.loop-slot.slot) b) c.has.ensures in
    record {
      items =
          obstacle_more found c.loop-slot.slot c.obstacle_if-found.result same c.args.report.now.items _ _
          c.loop-slot.invariant.items c.push_obstacle-of_slot.ensures.items;
      ours =
          ours_more found c.loop-slot.slot c.obstacle_if-found.result same c.loop-slot.is_ours c.either-is_ours.result c.push_obstacle-of_slot.result
          c.loop-slot.invariant.ours c.push_obstacle-of_slot.ensures.ours c.either-is_ours.ensures;
      len = omega (arith, c.loop-slot.invariant.len, c.push_obstacle-of_slot.ensures.len);
    }

pub returns-clause-items : goal.returns-clause-items
unfolding board_lines
returns-clause-items c =
    let ended : c.loop-slot.slot ≡ 22 = grind (arith, nat_tests, c.loop-slot.auto.slot-end, c.loop-slot-test.false) in
    c.loop-slot.invariant.items
    ∙ ap (λ n. c.args.report.now.items ++ lines_below (board_obstacle c.args.plan.now c.args.probed.now.version c.args.before.now c.args.change.now c.args.boards) n) ended

pub returns-clause-ours : goal.returns-clause-ours
unfolding has_ours
returns-clause-ours c =
    let ended : c.loop-slot.slot ≡ 22 = grind (arith, nat_tests, c.loop-slot.auto.slot-end, c.loop-slot-test.false) in
    c.loop-slot.invariant.ours
    ∙ ap (λ n. ours_below (board_obstacle c.args.plan.now c.args.probed.now.version c.args.before.now c.args.change.now c.args.boards) n) ended
