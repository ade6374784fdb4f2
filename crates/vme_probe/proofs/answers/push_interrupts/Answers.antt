use Rattle.std.proofs.Common.{◌≡◌, ◌∙◌, ◌++◌, ap, arith}
use Rattle.std.proofs.lemmas.Bool.Decides.{nat_tests}
use Rattle.vme_bus.specs.Sets.{has}
use Rattle.vme_probe.specs.Ends.{interrupt_lines, irq_lines}
use Rattle.vme_probe.proofs.LinesBelow.{irq_more}
use Rattle.vme_probe.proofs.answers.push_interrupts.Goals as goal

pub loop-below-preserved : goal.loop-below-preserved
loop-below-preserved c = record {
  items =
      irq_more c.args.plan.now c.args.standings.now c.loop-below.below (has c.pullers.result) c.args.report.now.items _ _
      c.pullers.ensures c.loop-below.invariant.items c.push_pulled.ensures.items;
  len = omega (arith, c.loop-below.invariant.len, c.push_pulled.ensures.len);
}

pub returns-clause-items : goal.returns-clause-items
unfolding interrupt_lines
returns-clause-items c =
    let ended : c.loop-below.below ≡ 7 = grind (arith, nat_tests, c.loop-below.auto.below-end, c.loop-below-test.false) in
    c.loop-below.invariant.items ∙ ap (λ n. c.args.report.now.items ++ irq_lines c.args.plan.now c.args.standings.now n) ended
