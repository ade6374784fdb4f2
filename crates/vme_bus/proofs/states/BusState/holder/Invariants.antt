use Rattle.std.proofs.Common.{◌≡◌, ℕ, ◌≤◌, ◌<◌, false}
use Rattle.vme_model.specs.declared.signals.Driver.TheVariants.{Slot}
use Rattle.vme_model.specs.declared.signals.Wire.TheVariants.{Bbsy}
use Rattle.vme_model.specs.History.{drive}
use Rattle.vme_bus.specs.States.{OfHistory}
use Rattle.vme_bus.proofs.states.BusState.holder.Given as goal

abbrev pub invariant-loop-slot : goal.invariant-loop-slot
invariant-loop-slot l = OfHistory l.self (λ _ p h.
    (k : ℕ) → 1 ≤ k → k < l.slot → drive h (Slot k) Bbsy ≡ false)
