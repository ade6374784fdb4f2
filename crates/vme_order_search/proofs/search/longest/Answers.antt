use Rattle.std.proofs.Common.{refl}
use Rattle.vme_order_search.specs.Searching.{Task}
use Rattle.vme_order_search.proofs.Outcomes.{ok_longest, ok_next, ok_next_within, ok_within}
use Rattle.vme_order_search.proofs.search.longest.Goals as goal

pub returns-in_default-2-clause-within : goal.returns-in_default-2-clause-within
returns-in_default-2-clause-within g c =
    let t : Task = record { version = c.args.version; plan = c.args.plan.now; slacks = c.args.slacks.now; seen = c.args.seen.now } in
    ok_within t c.longest_within.result (c.longest_within.ensures.found t refl refl c.new-start.ensures)

pub returns-in_default-2-clause-next_within : goal.returns-in_default-2-clause-next_within
returns-in_default-2-clause-next_within g c =
    let t : Task = record { version = c.args.version; plan = c.args.plan.now; slacks = c.args.slacks.now; seen = c.args.seen.now } in
    ok_next_within t c.longest_within.result (c.longest_within.ensures.found t refl refl c.new-start.ensures)

pub returns-in_default-2-clause-longest : goal.returns-in_default-2-clause-longest
returns-in_default-2-clause-longest g c =
    let t : Task = record { version = c.args.version; plan = c.args.plan.now; slacks = c.args.slacks.now; seen = c.args.seen.now } in
    ok_longest t c.longest_within.result (c.longest_within.ensures.found t refl refl c.new-start.ensures)

pub returns-in_default-2-clause-next : goal.returns-in_default-2-clause-next
returns-in_default-2-clause-next g c =
    let t : Task = record { version = c.args.version; plan = c.args.plan.now; slacks = c.args.slacks.now; seen = c.args.seen.now } in
    ok_next t c.longest_within.result (c.longest_within.ensures.found t refl refl c.new-start.ensures)

pub returns-clause-within : goal.returns-clause-within
returns-clause-within g c =
    let t : Task = record { version = c.args.version; plan = c.args.plan.now; slacks = c.args.slacks.now; seen = c.args.seen.now } in
    ok_within t c.longest_within-2.result (c.longest_within-2.ensures.found t refl refl c.new-start.ensures)

pub returns-clause-next_within : goal.returns-clause-next_within
returns-clause-next_within g c =
    let t : Task = record { version = c.args.version; plan = c.args.plan.now; slacks = c.args.slacks.now; seen = c.args.seen.now } in
    ok_next_within t c.longest_within-2.result (c.longest_within-2.ensures.found t refl refl c.new-start.ensures)

pub returns-clause-longest : goal.returns-clause-longest
returns-clause-longest g c =
    let t : Task = record { version = c.args.version; plan = c.args.plan.now; slacks = c.args.slacks.now; seen = c.args.seen.now } in
    ok_longest t c.longest_within-2.result (c.longest_within-2.ensures.found t refl refl c.new-start.ensures)

pub returns-clause-next : goal.returns-clause-next
returns-clause-next g c =
    let t : Task = record { version = c.args.version; plan = c.args.plan.now; slacks = c.args.slacks.now; seen = c.args.seen.now } in
    ok_next t c.longest_within-2.result (c.longest_within-2.ensures.found t refl refl c.new-start.ensures)

pub returns-clause-many : goal.returns-clause-many
returns-clause-many g c is =
    let t : Task = record { version = c.args.version; plan = c.args.plan.now; slacks = c.args.slacks.now; seen = c.args.seen.now } in
    c.longest_within-2.ensures.many t refl refl c.new-start.ensures refl is
