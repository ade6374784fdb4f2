use Rattle.vme_order_search.proofs.Next.{far_test, near_test}
use Rattle.vme_order_search.proofs.free.is_out_of_reach.Goals as goal

pub returns-then-least-place : goal.returns-then-least-place
returns-then-least-place c =
    far_test c.args.seen.now c.args.reach c.args.least c.args.place c.saturating_sub.result _ _
    c.if-least-place.true c.requires.within c.saturating_sub.ensures

pub returns-else-least-place : goal.returns-else-least-place
returns-else-least-place c =
    near_test c.args.seen.now c.args.reach c.args.least c.args.place c.if-least-place.false
