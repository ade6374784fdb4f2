use Rattle.std.proofs.Common.{ap}
use Rattle.vme_lock.proofs.Waiting.{none_in_turn}
use Rattle.vme_lock.proofs.workers.try_offer.Goals as goal

pub returns-in-None-clause-idle : goal.returns-in-None-clause-idle
returns-in-None-clause-idle g c =
    none_in_turn g.L.Rig.opened c.args.seat.now c.args.turn c.since.result.seen c.in_ok-seen.seen (ap (λ i. i.seen) c.since.ensures) c.in-None.is c.in_ok-seen.ensures.answer

pub returns-in-Err-clause-ended : goal.returns-in-Err-clause-ended
returns-in-Err-clause-ended g c = c.in-Err.ensures.ended c.args.bounds.edges
