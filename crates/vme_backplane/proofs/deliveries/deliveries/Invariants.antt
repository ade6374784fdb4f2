use Rattle.std.proofs.Common.{◌≡◌, reverse, take}
use Rattle.vme_model.specs.History.{in_order}
use Rattle.vme_model.specs.Deliveries.{delivered}
use Rattle.vme_wiring.specs.Wired.{IsWiringOf}
use Rattle.vme_backplane.proofs.deliveries.deliveries.Given as goal

abbrev pub invariant-loop-place : goal.invariant-loop-place
invariant-loop-place l = record {
  wired : IsWiringOf l.fn.version l.plan (reverse (take l.place (in_order l.store.history))) l.wiring;
  given : l.given.items ≡ delivered l.plan (reverse (take l.place (in_order l.store.history)));
}
