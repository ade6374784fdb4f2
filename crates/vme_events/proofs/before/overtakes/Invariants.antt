use Rattle.std.proofs.Common.{◌≡◌, false}
use Rattle.std.specs.List.{list_any}
use Rattle.vme_model.specs.Plan.{up_to}
use Rattle.vme_events.specs.Events.{asked_before}
use Rattle.vme_events.specs.Ordered.{OfOrdered}
use Rattle.vme_events.proofs.before.overtakes.Given as goal

abbrev pub invariant-loop-below : goal.invariant-loop-below
invariant-loop-below l = OfOrdered l.bus l.marks (λ _. list_any (asked_before l.bus.history l.driver) (up_to l.below) ≡ false)
