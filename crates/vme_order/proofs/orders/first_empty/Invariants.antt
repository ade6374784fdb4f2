use Rattle.std.proofs.Common.{◌≢◌, ◌<◌, ℕ, IsTrue, None}
use Rattle.vme_model.specs.declared.signals.Driver.TheVariants.{Slot}
use Rattle.vme_model.specs.Plan.{board}
use Rattle.vme_moments.specs.Before.{names}
use Rattle.vme_order.proofs.orders.first_empty.Given as goal

abbrev pub invariant-loop-slot : goal.invariant-loop-slot
invariant-loop-slot l =
    (s : ℕ) → s < l.slot → IsTrue (names l.slacks (Slot s)) → board l.plan s ≢ None
