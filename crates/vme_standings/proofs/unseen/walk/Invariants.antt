use Rattle.vme_model.specs.Accepted.{IsAccepted}
use Rattle.vme_bus.specs.Sets.{has}
use Rattle.vme_standings.specs.GrantChains.{place_before}
use Rattle.vme_standings.proofs.Walked.{Walked}
use Rattle.vme_standings.proofs.unseen.walk.Given as goal

abbrev pub invariant-loop-slot : goal.invariant-loop-slot
invariant-loop-slot l = record {
  accepted : IsAccepted l.plan;
  walked : Walked (has l.fn.from) (has l.steps) (place_before l.plan l.level) (has l.reached) l.slot;
}
