use Rattle.std.proofs.Common.{◌≡◌, arith, get_or}
use Rattle.vme_moments.proofs.Spelled.{plus_decimal, zero_decimal}
use Rattle.vme_moments.proofs.numbers.is_plain.Goals as goal

pub returns-then-digits-eq43-clause-other : goal.returns-then-digits-eq43-clause-other
returns-then-digits-eq43-clause-other c = λ h n small.
    plus_decimal c.args.digits.now n small c.if-digits-eq43.true

pub returns-else-digits-ne48-clause-other : goal.returns-else-digits-ne48-clause-other
returns-else-digits-ne48-clause-other c = λ long n small.
    let zero_first : get_or c.args.digits.now 0 0 ≡ 48 = grind arith in
    zero_decimal c.args.digits.now n small zero_first long
