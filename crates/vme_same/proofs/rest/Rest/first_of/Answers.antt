use Rattle.std.proofs.Common.{arith}
use Rattle.vme_same.proofs.Lists.{first_at, none_of_more, none_of_there, none_of_yet}
use Rattle.vme_same.proofs.rest.Rest.first_of.Goals as goal

pub loop-before-init : goal.loop-before-init
loop-before-init c = none_of_yet c.args.driver c.args.self.now.edges.items

pub loop-before-preserved : goal.loop-before-preserved
loop-before-preserved c =
    none_of_more c.args.driver c.args.self.now.edges.items c.loop-before.before c.at-left.result.now
    c.at-left.ensures (c.is_of.ensures.apart c.if-is_of.false) c.loop-before.invariant

pub returns-then-is_of-clause-first : goal.returns-then-is_of-clause-first
returns-then-is_of-clause-first c =
    first_at c.args.driver c.args.self.now.edges.items c.loop-before.before c.at-left.result.now
    c.at-left.ensures (c.is_of.ensures.same c.if-is_of.true) c.loop-before.invariant

pub returns-clause-first : goal.returns-clause-first
returns-clause-first c =
    none_of_there c.args.driver c.args.self.now.edges.items c.loop-before.before (omega arith)
    c.loop-before.invariant
