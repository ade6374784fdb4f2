use Rattle.std.proofs.Common.{◌≡◌, ◌+◌, ◌∷◌, [], sym, ap, arith, add-one}
use Rattle.std.proofs.lemmas.Bool.Decides.{nat_tests}
use Rattle.vme_captures.specs.declared.signals.Line.TheVariants as line
use Rattle.vme_probe.specs.Ends.{next_interrupts, next_irqs, next_of}
use Rattle.vme_probe.proofs.Coming.{adds_as, adds_both}
use Rattle.vme_probe.proofs.answers.push_next_interrupts.Goals as goal

pub loop-below-preserved : goal.loop-below-preserved
loop-below-preserved c = record {
  adds =
      adds_as c.args.plan.now c.args.probed.now c.args.standings.now _ _ _ _ (ap (λ n. next_irqs c.args.standings.now n) (sym (add-one c.loop-below.below)))
      (adds_both c.args.plan.now c.args.probed.now c.args.standings.now (next_irqs c.args.standings.now c.loop-below.below)
      (next_of c.args.standings.now (line.Irq (c.loop-below.below + 1)) ∷ []) _ _ _ c.loop-below.invariant.adds c.push_next.ensures.adds);
  len = omega (arith, c.loop-below.invariant.len, c.push_next.ensures.len);
}

pub returns-clause-adds : goal.returns-clause-adds
unfolding next_interrupts
returns-clause-adds c =
    let ended : c.loop-below.below ≡ 7 = grind (arith, nat_tests, c.loop-below.auto.below-end, c.loop-below-test.false) in
    adds_as c.args.plan.now c.args.probed.now c.args.standings.now _ _ _ _ (ap (λ n. next_irqs c.args.standings.now n) ended) c.loop-below.invariant.adds
