use Rattle.std.proofs.Common.{refl}
use Rattle.vme_model.specs.Report.{at_power_up, trace_limit}
use Rattle.vme_stories.proofs.Searches.{found_at_end, found_search}
use Rattle.vme_stories.proofs.search.story.Goals as goal

pub returns-then-is_full : goal.returns-then-is_full
returns-then-is_full c =
    let e = c.in_ok-search.ensures in
    found_at_end c.in_ok-search.search (at_power_up c.args.bus.version c.args.bus.plan trace_limit)
    c.args.edges.items c.args.edge
    (record { search = e.search; start = e.start; list = e.list }) refl e.edge
    (c.is_full.ensures.0 c.if-is_full.true)

pub returns : goal.returns
returns c =
    let e = c.in_ok-search.ensures in
    let f = c.in_ok-shorten.ensures in
    found_search c.in_ok-search.search c.shorten.new.self
    (at_power_up c.args.bus.version c.args.bus.plan trace_limit) c.args.edges.items c.args.edge
    (record { search = e.search; start = e.start; list = e.list }) refl e.edge f.on f.part f.tight
    f.still
