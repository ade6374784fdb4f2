use Rattle.vme_probe.proofs.obstacles.Obstacle.push_condition.Goals as goal

pub returns-in-IsPending-clause-items : goal.returns-in-IsPending-clause-items
returns-in-IsPending-clause-items c =
    rw c.in-IsPending.is c.push_numbered-in-IsPending.ensures.items

pub returns-in-NoAcknowledge-clause-items : goal.returns-in-NoAcknowledge-clause-items
returns-in-NoAcknowledge-clause-items c =
    rw c.in-NoAcknowledge.is c.push-in-NoAcknowledge.ensures.items
