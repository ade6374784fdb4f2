use Rattle.std.proofs.Common.{◌<◌, sym, ◌∙◌, arith}
use Rattle.vme_order_search.proofs.Next.{free_by}
use Rattle.vme_order_search.proofs.free.is_free.Goals as goal

pub returns-clause-free : goal.returns-clause-free
returns-clause-free c places takes is =
    free_by c.args.slacks.now c.args.seen.now places c.args.taken.now c.args.place
    c.requires.ascending takes c.requires.within (sym c.has.ensures ∙ c.if-has.false)
    (λ i high low. c.loop-other.invariant i high
    (let end : i < c.loop-other.other = omega arith in end))
