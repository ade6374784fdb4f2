use Rattle.std.proofs.Common.{◌≡◌, false}
use Rattle.std.specs.List.{list_any}
use Rattle.vme_model.specs.Plan.{up_to}
use Rattle.vme_events.specs.Events.{is_rival}
use Rattle.vme_explain.specs.Traced.{OfTrace}
use Rattle.vme_events.proofs.before.is_any_rival.Given as goal

abbrev pub invariant-loop-below : goal.invariant-loop-below
invariant-loop-below l = OfTrace l.bus l.marks (λ _. list_any (is_rival l.bus.plan l.bus.history l.driver l.level) (up_to l.below) ≡ false)
