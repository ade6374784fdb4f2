use Rattle.std.proofs.Common.{◌-◌, arith}
use Rattle.std.proofs.lemmas.Nat.Bits.{bit_at_and, bit_at-lt}
use Rattle.vme_trace.proofs.feeds.without_lowest.Goals as goal

pub returns-clause-others : goal.returns-clause-others
returns-clause-others c = λ k set.
    let both = bit_at_and c.args.bits (c.args.bits - 1) k in
    let small = bit_at-lt c.args.bits k in
    omega (arith, both, small, set)
