use Rattle.std.proofs.Common.{arith}
use Rattle.std.proofs.lemmas.Bool.Decides.{nat_tests}
use Rattle.vme_lock.proofs.LogDifference.{stands, stands_not}
use Rattle.vme_lock.proofs.following.stands_at.Goals as goal

pub returns-then-at-len : goal.returns-then-at-len
returns-then-at-len c = stands c.args.log.now c.args.at c.edge_at.result c.args.edge c.is_same.result c.edge_at.ensures c.is_same.ensures

pub returns-else-at-len : goal.returns-else-at-len
returns-else-at-len c =
    stands_not c.args.log.now c.args.at c.args.edge _ (grind (arith, nat_tests, c.if-at-len.false)) (omega (arith, c.if-at-len.false, c.len.ensures))
