use Rattle.std.proofs.Common.{◌≡◌, ◌+◌, ap, take, true, arith}
use Rattle.std.specs.Prelude.{Some}
use Rattle.std.specs.List.{slice_get}
use Rattle.vme_chain.proofs.Counts.{some_low}
use Rattle.vme_chain.proofs.chains.Chain.rise.Goals as goal

-- the segment that rises is one of the low segments that are counted
pub overflow_sub-self : goal.overflow_sub-self
overflow_sub-self c =
    let low : slice_get (take (c.self.inside.length + 1) c.self.inside.segments) c.args.k ≡ Some true = cc (c.requires.low, ap (λ v. v.low) c.self.view_is) in
    let some = some_low (take (c.self.inside.length + 1) c.self.inside.segments) c.args.k low in
    omega (arith, some, c.self.invariant.1)
