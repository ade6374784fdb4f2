use Rattle.std.proofs.Common.{arith}
use Rattle.vme_same.proofs.Lists.{found_at, none_more, none_there, none_yet}
use Rattle.vme_same.proofs.rest.Rest.find.Goals as goal

pub loop-place-init : goal.loop-place-init
loop-place-init c = none_yet c.args.edge.now c.args.self.now.edges.items

pub loop-place-preserved : goal.loop-place-preserved
loop-place-preserved c =
    none_more c.args.edge.now c.args.self.now.edges.items c.loop-place.place c.at.result.now
    c.at.ensures (c.is_same.ensures.apart c.if-is_same.false) c.loop-place.invariant

pub returns-then-is_same : goal.returns-then-is_same
returns-then-is_same c =
    found_at c.args.edge.now c.args.self.now.edges.items c.loop-place.place c.at.result.now
    (omega arith) c.at.ensures (c.is_same.ensures.same c.if-is_same.true) c.loop-place.invariant

pub returns : goal.returns
returns c =
    none_there c.args.edge.now c.args.self.now.edges.items c.loop-place.place (omega arith)
    c.loop-place.invariant
