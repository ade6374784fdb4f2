use Rattle.std.proofs.Common.{◌≤◌, ◌<◌, ◌-◌, ◌+◌, ◌*◌, ◌/◌, ◌∙◌, ap, arith, ◌++◌, take, get_or, [], subst}
use Rattle.std.specs.Fmt.{decimal}
use Rattle.vme_replay.specs.declared.tails.TheConstants.{ENDS, SIZES}
use Rattle.vme_replay.proofs.VerdictEnds.{size_fits, line_in_table}
use Rattle.vme_replay.proofs.tails.push_line.Goals as goal

pub push_line-requires-clause-size : goal.push_line-requires-clause-size
push_line-requires-clause-size c =
    let fits : get_or SIZES c.from-number.result 0 ≤ 8 = size_fits c.from-number.result c.if-number-lt-ENDS_COUNT.true in omega (arith, c.from.ensures)

pub returns-then-number-lt-ENDS_COUNT-clause-text : goal.returns-then-number-lt-ENDS_COUNT-clause-text
returns-then-number-lt-ENDS_COUNT-clause-text c =
    let m = 10 * (c.args.count.now / 10) + (c.args.digit - 48) in
    let n = c.args.found.now.number in
    c.push_line.ensures.text
    ∙ ap (λ k. c.args.text.now ++ (decimal m ++ take k (get_or ENDS c.from-number.result []))) c.from.ensures
    ∙ ap (λ k. c.args.text.now ++ (decimal m ++ take (get_or SIZES k 0) (get_or ENDS k []))) c.from-number.ensures
    ∙ ap (λ l. c.args.text.now ++ l) (line_in_table m n c.args.found.now.delivery (subst (λ k. k < 64) c.from-number.ensures c.if-number-lt-ENDS_COUNT.true))

pub returns-then-number-lt-ENDS_COUNT-clause-short : goal.returns-then-number-lt-ENDS_COUNT-clause-short
returns-then-number-lt-ENDS_COUNT-clause-short c =
    let fits : get_or SIZES c.from-number.result 0 ≤ 8 = size_fits c.from-number.result c.if-number-lt-ENDS_COUNT.true in omega (arith, c.from.ensures, c.push_line.ensures.short)
