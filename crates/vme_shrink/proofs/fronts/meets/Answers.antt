use Rattle.vme_shrink.proofs.SoughtEdges.{first_refused}
use Rattle.vme_shrink.proofs.fronts.meets.Goals as goal

pub returns-in_ok-is_accepted-in-None-clause-state :
    goal.returns-in_ok-is_accepted-in-None-clause-state
returns-in_ok-is_accepted-in-None-clause-state c =
    first_refused c.args.asked c.args.number c.args.front.now c.make-in-None.new.front
    c.args.edge.now c.in-None.is c.in_ok-is_accepted-in-None.ensures.state
