use Rattle.std.proofs.Common.{◌≡◌, sym, ◌∙◌, false, true}
use Rattle.vme_swaps.specs.Swaps.{IsFree}
use Rattle.vme_swaps.proofs.Free.{decided}
use Rattle.vme_swaps.proofs.swaps.is_free.Goals as goal

-- src/swaps.rt:82:9
pub returns-then-not-are_both_allowed : goal.returns-then-not-are_both_allowed
returns-then-not-are_both_allowed c = λ version p h is. (
  λ (so : false ≡ true). absurd (cc),
  λ (free : IsFree version p h c.args.first c.args.second).
      sym c.if-not-are_both_allowed.true ∙ (c.are_both_allowed.ensures version p h is).1 (free.legal, free.swapped),
)

-- src/swaps.rt:78:1
pub returns : goal.returns
returns c = λ version p h is.
    let legal = (c.are_both_allowed.ensures version p h is).0 c.if-not-are_both_allowed.false in
    decided version p h c.args.first c.args.second c.is_request_served.result is.accepted legal.0 legal.1 (c.is_request_served.ensures version p h is)
