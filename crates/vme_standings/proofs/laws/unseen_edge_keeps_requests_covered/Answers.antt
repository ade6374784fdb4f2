use Rattle.vme_standings.specs.RequestSets.{may_be}
use Rattle.vme_standings.proofs.RequestSteps.{unseen_covers}
use Rattle.vme_standings.proofs.SeenLines.{irq_stays, dtack_stays}
use Rattle.vme_standings.proofs.laws.unseen_edge_keeps_requests_covered.Goals as goal

pub returns : goal.returns
returns c = λ version p pins h e old ok legal none covers hidden.
    unseen_covers version p h e (may_be old) ok legal (irq_stays p pins h e none) (dtack_stays p pins h e none) covers hidden
