use Rattle.std.proofs.Common.{◌≡◌, find, None}
use Rattle.vme_model.specs.declared.signals.Driver.TheVariants.{Slot}
use Rattle.vme_model.specs.declared.signals.Wire.TheVariants.{Bbsy}
use Rattle.vme_model.specs.Plan.{up_to}
use Rattle.vme_model.specs.History.{drive}
use Rattle.vme_pictures.proofs.grants.holder.Given as goal

abbrev pub invariant-loop-below : goal.invariant-loop-below
invariant-loop-below l = find (λ s. drive l.bus.history (Slot s) Bbsy) (up_to l.below) ≡ None
