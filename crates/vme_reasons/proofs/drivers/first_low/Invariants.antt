use Rattle.std.proofs.Common.{◌≡◌, find, None}
use Rattle.vme_model.specs.declared.signals.Driver.TheVariants.{Slot}
use Rattle.vme_model.specs.Plan.{up_to}
use Rattle.vme_model.specs.History.{drive}
use Rattle.vme_reasons.specs.Traced.{OfTrace}
use Rattle.vme_reasons.proofs.drivers.first_low.Given as goal

abbrev pub invariant-loop-below : goal.invariant-loop-below
invariant-loop-below l = OfTrace l.bus l.marks (λ _. find (λ s. drive l.bus.history (Slot s) l.wire) (up_to l.below) ≡ None)
