use Rattle.std.proofs.Common.{◌≡◌, ◌+◌, ◌∷◌, [], sym, ap, arith, add-one}
use Rattle.std.proofs.lemmas.Bool.Decides.{nat_tests}
use Rattle.vme_model.specs.declared.signals.Cycle.TheVariants.{Acknowledge}
use Rattle.vme_captures.specs.declared.signals.Change.{Change}
use Rattle.vme_captures.specs.declared.signals.Value.TheVariants as value
use Rattle.vme_probe.specs.Ends.{next_acknowledges, next_cycles, strobe_fall}
use Rattle.vme_probe.proofs.Coming.{adds_as, adds_both}
use Rattle.vme_probe.proofs.answers.push_next_cycles.Goals as goal

pub loop-below-preserved : goal.loop-below-preserved
loop-below-preserved c = record {
  adds =
      adds_as c.args.plan.now c.args.probed.now c.args.standings.now _ _ _ _ (ap (λ n. next_acknowledges n) (sym (add-one c.loop-below.below)))
      (adds_both c.args.plan.now c.args.probed.now c.args.standings.now (next_acknowledges c.loop-below.below)
      (strobe_fall (value.Shown (Acknowledge (c.loop-below.below + 1))) ∷ []) _ _ _ c.loop-below.invariant.adds
      (adds_as c.args.plan.now c.args.probed.now c.args.standings.now _ _ _ _ (ap (λ (x : Change). x ∷ []) c.strobe_fall.ensures) c.push_change.ensures.adds));
  len = omega (arith, c.loop-below.invariant.len, c.push_change.ensures.len);
}

pub returns-clause-adds : goal.returns-clause-adds
unfolding next_cycles
returns-clause-adds c =
    let ended : c.loop-below.below ≡ 7 = grind (arith, nat_tests, c.loop-below.auto.below-end, c.loop-below-test.false) in
    adds_both c.args.plan.now c.args.probed.now c.args.standings.now (next_acknowledges 7) (strobe_fall value.Access ∷ []) _ _ _
    (adds_as c.args.plan.now c.args.probed.now c.args.standings.now _ _ _ _ (ap (λ n. next_acknowledges n) ended) c.loop-below.invariant.adds)
    (adds_as c.args.plan.now c.args.probed.now c.args.standings.now _ _ _ _ (ap (λ (x : Change). x ∷ []) c.strobe_fall-2.ensures) c.push_change-2.ensures.adds)
