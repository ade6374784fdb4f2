use Rattle.std.proofs.Common.{◌≡◌, ◌∙◌, ◌++◌, ap, arith}
use Rattle.std.proofs.lemmas.Bool.Decides.{nat_tests}
use Rattle.vme_bus.specs.Sets.{has}
use Rattle.vme_probe.specs.Ends.{br_lines, request_lines}
use Rattle.vme_probe.proofs.LinesBelow.{br_more}
use Rattle.vme_probe.proofs.answers.push_requests.Goals as goal

pub loop-level-preserved : goal.loop-level-preserved
loop-level-preserved c = record {
  items =
      br_more c.args.plan.now c.args.standings.now c.loop-level.level (has c.boards_of_level.result) c.args.report.now.items _ _
      c.boards_of_level.ensures c.loop-level.invariant.items c.push_pulled.ensures.items;
  len = omega (arith, c.loop-level.invariant.len, c.push_pulled.ensures.len);
}

pub returns-clause-items : goal.returns-clause-items
unfolding request_lines
returns-clause-items c =
    let ended : c.loop-level.level ≡ 4 = grind (arith, nat_tests, c.loop-level.auto.level-end, c.loop-level-test.false) in
    c.loop-level.invariant.items ∙ ap (λ n. c.args.report.now.items ++ br_lines c.args.plan.now c.args.standings.now n) ended
