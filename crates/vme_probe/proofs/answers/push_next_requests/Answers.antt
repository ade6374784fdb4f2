use Rattle.std.proofs.Common.{◌≡◌, ◌∷◌, [], sym, ap, arith, add-one}
use Rattle.std.proofs.lemmas.Bool.Decides.{nat_tests}
use Rattle.vme_captures.specs.declared.signals.Line.TheVariants as line
use Rattle.vme_probe.specs.Ends.{next_brs, next_of, next_requests}
use Rattle.vme_probe.proofs.Coming.{adds_as, adds_both}
use Rattle.vme_probe.proofs.answers.push_next_requests.Goals as goal

pub loop-level-preserved : goal.loop-level-preserved
loop-level-preserved c = record {
  adds =
      adds_as c.args.plan.now c.args.probed.now c.args.standings.now _ _ _ _ (ap (λ n. next_brs c.args.standings.now n) (sym (add-one c.loop-level.level)))
      (adds_both c.args.plan.now c.args.probed.now c.args.standings.now (next_brs c.args.standings.now c.loop-level.level)
      (next_of c.args.standings.now (line.Br c.loop-level.level) ∷ []) _ _ _ c.loop-level.invariant.adds c.push_next.ensures.adds);
  len = omega (arith, c.loop-level.invariant.len, c.push_next.ensures.len);
}

pub returns-clause-adds : goal.returns-clause-adds
unfolding next_requests
returns-clause-adds c =
    let ended : c.loop-level.level ≡ 4 = grind (arith, nat_tests, c.loop-level.auto.level-end, c.loop-level-test.false) in
    adds_as c.args.plan.now c.args.probed.now c.args.standings.now _ _ _ _ (ap (λ n. next_brs c.args.standings.now n) ended) c.loop-level.invariant.adds
