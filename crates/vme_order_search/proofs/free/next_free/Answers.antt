use Rattle.std.proofs.Common.{ℕ, ap, sym, ◌∙◌}
use Rattle.vme_order_search.specs.Places.{is_far}
use Rattle.vme_order_search.proofs.Next.{far_unfree, unfree_on}
use Rattle.vme_order_search.proofs.free.next_free.Goals as goal

pub returns-then-is_out_of_reach-clause-next : goal.returns-then-is_out_of_reach-clause-next
returns-then-is_out_of_reach-clause-next c places takes =
    unfree_on c.args.slacks.now c.args.seen.now places c.args.from c.loop-place.place
    (c.loop-place.invariant places takes)
    (far_unfree c.args.slacks.now c.args.seen.now places c.args.taken.now c.loop-place.place
    c.greatest-reach.result c.requires.ascending takes c.greatest-reach.ensures.all
    (ap (λ (n : ℕ). is_far c.args.seen.now c.greatest-reach.result n c.loop-place.place) (sym c.least.ensures)
    ∙ sym c.is_out_of_reach.ensures ∙ c.if-is_out_of_reach.true))
