use Rattle.std.proofs.Common.{refl}
use Rattle.vme_same.proofs.Leading.{going_first}
use Rattle.vme_same.proofs.progress.Pairing.new.Goals as goal

pub returns-clause-going : goal.returns-clause-going
returns-clause-going c =
    going_first c.args.plan.now c.args.first c.args.second c.begin.result c.new-2.result.items
    c.new.result 0 c.begin.ensures.same c.begin.ensures.other c.new.ensures.edges
    c.new.ensures.behind c.new-2.ensures.items refl
