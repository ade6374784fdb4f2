use Rattle.std.proofs.Common.{refl}
use Rattle.vme_model.specs.History.{in_order}
use Rattle.vme_model.specs.Report.{at_power_up, trace_limit}
use Rattle.vme_shrink_search.proofs.Searches.{found_at_end, found_search}
use Rattle.vme_shrink_search.proofs.search.story.Goals as goal

pub returns-then-is_full : goal.returns-then-is_full
returns-then-is_full g c =
    let e = c.new-search.ensures in
    found_at_end c.new-search.result
    (at_power_up c.args.front.version c.args.front.plan trace_limit) (in_order c.args.front.history)
    c.args.edge e.search e.start refl e.list e.edge (c.is_full.ensures.0 c.if-is_full.true)

pub returns : goal.returns
returns g c =
    let e = c.new-search.ensures in
    let f = c.in_ok-shorten.ensures in
    found_search c.new-search.result c.shorten.new.self
    (at_power_up c.args.front.version c.args.front.plan trace_limit) (in_order c.args.front.history)
    c.args.edge e.search e.start refl e.list e.edge f.on f.part f.tight f.still
